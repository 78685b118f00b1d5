-- A query's number by its digits, cut off above 2^63, and by its first byte.
use mathlib.Core.Path.{◌≡◌, refl, sym, ap}
use mathlib.Core.Bool.{Bool, true, false}
use mathlib.Core.List.{[], ◌∷◌}
use Rattle.std.specs.Prelude.{Option, None}
use Prim.Native.Nat.{ℕ, zero, suc, ◌≤◌, ◌<◌}
use native.Mathlib.Omega.{arith}
use lib.Dec.{ltb, eqb}
use lib.Pointwise.{pointwise}
use lib.IntN.{pos, neg_ℤ}
use lib.ListN.{length, take, drop}
use borrow.Author.Tests.{le-leb, lt-leb, lt-ltb}
use Rattle.rules.specs.Bytes.{Bytes}
use Rattle.rules.proofs.Tests.{apart, and_left, and_both, false_of, true-not-false}
use Rattle.rules.specs.Numbers.{decimal, most}
use Rattle.rules.specs.Query.{number, out_of_range, not_number, most_digits, in_range, positive, negative, digits_in, number_of}
use Rattle.query_numbers.specs.Answers.{signed_of, numeral_is}
use Rattle.query_numbers.specs.Capping.{capped_is}
use Rattle.std.specs.Prelude.{Ok, Err}
use Rattle.query_numbers.specs.declared.NoNumber.{NoNumber}
use Rattle.query_numbers.specs.declared.NoNumber.TheVariants.{OutOfRange, NotNumber}
use Rattle.query_numbers.proofs.Cuts.{cut_below, cut-large, cut-none}

-- ---- the digits of a query's number

pub digits-many : (s : Bytes) → 20 < length s → digits_in s ≡ None
unfolding digits_in most_digits
digits-many s h = rw (lt-leb (length s) 20 h)

pub digits-few : (s : Bytes) → length s ≤ 20 → digits_in s ≡ decimal s
unfolding digits_in most_digits
digits-few s h = rw (le-leb (length s) 20 h)

-- ---- a query's number, by its digits

module _ (o : Option ℕ) where
  positive-none : capped_is o ≡ Err NotNumber → positive o ≡ not_number
  unfolding positive
  positive-none e = rw (cut-none o e)

  negative-none : capped_is o ≡ Err NotNumber → negative o ≡ not_number
  unfolding negative
  negative-none e = rw (cut-none o e)

  positive-large : capped_is o ≡ Err OutOfRange → positive o ≡ out_of_range
  unfolding positive in_range
  positive-large e =
      let r = cut-large o e in
      let h : most < r.0 = omega (arith, r.2) in
      rw (r.1, lt-leb r.0 most h)

  negative-large : capped_is o ≡ Err OutOfRange → negative o ≡ out_of_range
  unfolding negative in_range
  negative-large e = let r = cut-large o e in rw (r.1, lt-leb r.0 (suc most) r.2)

  pub positive-refused : (e : NoNumber) → capped_is o ≡ Err e → numeral_is (positive o) ≡ Err e
  unfolding numeral_is
  positive-refused OutOfRange h = ap numeral_is (positive-large h)
  positive-refused NotNumber h = ap numeral_is (positive-none h)

  pub negative-refused : (e : NoNumber) → capped_is o ≡ Err e → numeral_is (negative o) ≡ Err e
  unfolding numeral_is
  negative-refused OutOfRange h = ap numeral_is (negative-large h)
  negative-refused NotNumber h = ap numeral_is (negative-none h)

  module _ {n : ℕ} (e : capped_is o ≡ Ok n) where
    pub positive-out : most < n → positive o ≡ out_of_range
    unfolding positive in_range
    positive-out h = rw ((cut_below o e).0, lt-leb n most h)

    pub positive-in : n ≤ most → positive o ≡ number (pos n)
    unfolding positive in_range
    positive-in h = rw ((cut_below o e).0, le-leb n most h)

    pub negative-in : negative o ≡ number (neg_ℤ (pos n))
    unfolding negative in_range
    negative-in = rw ((cut_below o e).0, le-leb n (suc most) (cut_below o e).1)

-- only zero is not negative behind a minus
pub signed-minus : (n : ℕ) → signed_of (neg_ℤ (pos n)) ≡ record { negative = ltb 0 n; size = n }
unfolding signed_of
signed-minus zero = refl
signed-minus (suc n) = ap (λ (x : Bool). record { negative = x; size = suc n }) (sym (lt-ltb 0 (suc n) (omega arith)))

-- ---- a query's number, by its first byte

pub number-minus : (s d : Bytes) → pointwise eqb (take 1 s) (45 ∷ []) ≡ true → d ≡ drop 1 s → number_of s ≡ negative (digits_in d)
unfolding number_of
number-minus [] d h e = apart (cc)
number-minus (b ∷ t) d h e = rw (number_of, and_left (eqb b 45) true h, e)

pub number-plain : (s : Bytes) → pointwise eqb (take 1 s) (45 ∷ []) ≡ false → number_of s ≡ positive (digits_in s)
unfolding number_of digits_in positive decimal most_digits
number-plain [] h = refl
number-plain (b ∷ t) h = rw (number_of, false_of (eqb b 45) (λ e. true-not-false (and_both e refl) h))
