-- A condition from the strings of its fields: what each answer of a word says of the rules, and what the rules make of it.
use mathlib.Core.Path.{◌≡◌, refl}
use mathlib.Core.Bool.{true, false}
use Rattle.std.specs.Prelude.{Option, None, Some}
use Rattle.rules.specs.Bytes.{Bytes}
use Rattle.rules.specs.Query.{Number, number, out_of_range, not_number, number_of, is_number, As as RuleAs}
use Rattle.rules.specs.Query.{as_text, as_number, Op as RuleOp, eq, lt, le, gt, ge, as_of, op_of, fits}
use Rattle.rules.proofs.Tests.{apart}
use Rattle.query_conditions.specs.Words.{op_is, as_is, kind_is, operator_is, fit_by, fit_is}
use Rattle.query_conditions.specs.declared.words.Op.{Op}
use Rattle.query_conditions.specs.declared.words.Op.TheVariants.{Eq, Lt, Le, Gt, Ge}
use Rattle.query_numbers.specs.declared.Signed.{Signed}
use Rattle.query_conditions.specs.Conditions.{condition_from, condition_by}
use Rattle.query_conditions.specs.declared.words.As.{As}
use Rattle.query_conditions.specs.declared.words.As.TheVariants.{Text as AsText, Number as AsNumber}

-- ---- words

pub kind-said : (o : Option RuleAs) {k : As} → Some k ≡ kind_is o → o ≡ Some (as_is k)
unfolding kind_is as_is
kind-said None e = apart (cc)
kind-said (Some as_text) {k} e = let same : k ≡ AsText = cc in rw same
kind-said (Some as_number) {k} e = let same : k ≡ AsNumber = cc in rw same

pub kind-unsaid : (o : Option RuleAs) → None ≡ kind_is o → o ≡ None
unfolding kind_is
kind-unsaid None e = refl
kind-unsaid (Some as_text) e = apart (cc)
kind-unsaid (Some as_number) e = apart (cc)

pub operator-said : (o : Option RuleOp) {p : Op} → Some p ≡ operator_is o → o ≡ Some (op_is p)
unfolding operator_is op_is
operator-said None e = apart (cc)
operator-said (Some eq) {p} e = let same : p ≡ Eq = cc in rw same
operator-said (Some lt) {p} e = let same : p ≡ Lt = cc in rw same
operator-said (Some le) {p} e = let same : p ≡ Le = cc in rw same
operator-said (Some gt) {p} e = let same : p ≡ Gt = cc in rw same
operator-said (Some ge) {p} e = let same : p ≡ Ge = cc in rw same

pub operator-unsaid : (o : Option RuleOp) → None ≡ operator_is o → o ≡ None
unfolding operator_is
operator-unsaid None e = refl
operator-unsaid (Some eq) e = apart (cc)
operator-unsaid (Some lt) e = apart (cc)
operator-unsaid (Some le) e = apart (cc)
operator-unsaid (Some gt) e = apart (cc)
operator-unsaid (Some ge) e = apart (cc)

fit-is-number : (x : Number) {n : Signed} → Some n ≡ fit_by x → is_number x ≡ true
unfolding fit_by is_number
fit-is-number (number z) e = refl
fit-is-number out_of_range e = apart (cc)
fit-is-number not_number e = apart (cc)

unfit-is-none : (x : Number) → None ≡ fit_by x → is_number x ≡ false
unfolding fit_by is_number
unfit-is-none (number z) e = apart (cc)
unfit-is-none out_of_range e = refl
unfit-is-none not_number e = refl

pub fit-fits : (k : RuleAs) (v : Bytes) {n : Signed} → Some n ≡ fit_is k v → fits k v ≡ true
unfolding fit_is fits
fit-fits as_text v e = refl
fit-fits as_number v e = fit-is-number (number_of v) e

pub fit-unfits : (k : RuleAs) (v : Bytes) → None ≡ fit_is k v → fits k v ≡ false
unfolding fit_is fits
fit-unfits as_text v e = apart (cc)
fit-unfits as_number v e = unfit-is-none (number_of v) e

-- ---- a condition

module _ (c a o v : Bytes) where
  pub from-no-kind : as_of a ≡ None → condition_from c a o v ≡ None
  unfolding condition_from
  from-no-kind e = rw (condition_from, e)

  module _ {k : RuleAs} (e : as_of a ≡ Some k) where
    pub from-no-operator : op_of o ≡ None → condition_from c a o v ≡ None
    unfolding condition_from
    from-no-operator f = rw (condition_from, e, f)

    module _ {p : RuleOp} (f : op_of o ≡ Some p) where
      pub from-unfit : fits k v ≡ false → condition_from c a o v ≡ None
      unfolding condition_from
      from-unfit g = rw (condition_from, e, f, g)

      pub from-words : fits k v ≡ true → condition_from c a o v ≡ Some (record { column = c; kind = k; op = p; bound = v })
      unfolding condition_from
      from-words g = rw (condition_from, e, f, g)

module _ (c a o v : Option Bytes) where
  pub by-no-column : c ≡ None → condition_by c a o v ≡ None
  unfolding condition_by
  by-no-column e = rw (condition_by, e)

  module _ {x : Bytes} (e : c ≡ Some x) where
    pub by-no-kind : a ≡ None → condition_by c a o v ≡ None
    unfolding condition_by
    by-no-kind f = rw (condition_by, e, f)

    module _ {y : Bytes} (f : a ≡ Some y) where
      pub by-no-operator : o ≡ None → condition_by c a o v ≡ None
      unfolding condition_by
      by-no-operator g = rw (condition_by, e, f, g)

      module _ {z : Bytes} (g : o ≡ Some z) where
        pub by-no-value : v ≡ None → condition_by c a o v ≡ None
        unfolding condition_by
        by-no-value h = rw (condition_by, e, f, g, h)

        pub by-strings : {w : Bytes} → v ≡ Some w → condition_by c a o v ≡ condition_from x y z w
        unfolding condition_by
        by-strings h = rw (condition_by, e, f, g, h)
