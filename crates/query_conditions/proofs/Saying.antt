-- What each word of a condition says, by the tests on it.
use mathlib.Core.Path.{◌≡◌, refl}
use mathlib.Core.Bool.{true, false}
use Rattle.std.specs.Prelude.{None, Some}
use Rattle.rules.specs.Bytes.{Bytes, ascii, first, same}
use Rattle.rules.specs.Query.{Number as RuleNumber, number, out_of_range, not_number, as_text, as_number, eq, lt, le, gt, ge, as_of, op_of}
use Rattle.query_numbers.specs.Answers.{numeral_is}
use Rattle.std.specs.Result.{result_ok}
use Rattle.query_conditions.specs.Words.{fit_by}

-- ---- what is compared

module _ (t : Bytes) where
  pub as-text : same t (ascii "text") ≡ true → as_of t ≡ Some as_text
  unfolding as_of first
  as-text e = rw e

  module _ (a : same t (ascii "text") ≡ false) where
    pub as-number : same t (ascii "number") ≡ true → as_of t ≡ Some as_number
    unfolding as_of first
    as-number e = rw (a, e)

    pub as_none : same t (ascii "number") ≡ false → as_of t ≡ None
    unfolding as_of first
    as_none e = rw (a, e)

-- ---- how

module _ (t : Bytes) where
  pub op-eq : same t (ascii "eq") ≡ true → op_of t ≡ Some eq
  unfolding op_of first
  op-eq e = rw e

  module _ (a : same t (ascii "eq") ≡ false) where
    pub op-lt : same t (ascii "lt") ≡ true → op_of t ≡ Some lt
    unfolding op_of first
    op-lt e = rw (a, e)

    module _ (b : same t (ascii "lt") ≡ false) where
      pub op_le : same t (ascii "le") ≡ true → op_of t ≡ Some le
      unfolding op_of first
      op_le e = rw (a, b, e)

      module _ (c : same t (ascii "le") ≡ false) where
        pub op-gt : same t (ascii "gt") ≡ true → op_of t ≡ Some gt
        unfolding op_of first
        op-gt e = rw (a, b, c, e)

        module _ (d : same t (ascii "gt") ≡ false) where
          pub op-ge : same t (ascii "ge") ≡ true → op_of t ≡ Some ge
          unfolding op_of first
          op-ge e = rw (a, b, c, d, e)

          pub op-none : same t (ascii "ge") ≡ false → op_of t ≡ None
          unfolding op_of first
          op-none e = rw (a, b, c, d, e)

-- ---- a value under "number"

pub ok_fits : (x : RuleNumber) → result_ok (numeral_is x) ≡ fit_by x
unfolding numeral_is fit_by
ok_fits (number z) = refl
ok_fits out_of_range = refl
ok_fits not_number = refl
