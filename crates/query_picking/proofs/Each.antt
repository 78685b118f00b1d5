-- Every condition, one after the other: what all say is what those that are left say, and whether those before are met.
use mathlib.Core.Path.{◌≡◌, refl, sym, ap, ap₂, subst, ◌∙◌}
use mathlib.Core.Bool.{Bool, true, false, ◌&&◌}
use Rattle.std.specs.Prelude.{Option}
use mathlib.Core.List.{List, ◌∷◌}
use Prim.Native.Nat.{ℕ, ◌+◌, ◌≤◌, ◌<◌}
use lib.ListN.{length, drop, get_or}
use Rattle.rules.specs.Bytes.{Bytes}
use Rattle.rules.specs.Json.Text.{Text}
use Rattle.rules.specs.Actions.{Facts}
use Rattle.rules.specs.Query.{Condition as RuleCondition}
use Rattle.rules.specs.Picking.{value_at, meets_value, meets_all, out_of, any_out_of}
use Rattle.rules.proofs.Tests.{and_left, and_right, and-fails-left}
use Rattle.rules.proofs.InRange.{any_out_of-here, any_out_of-past}
use Rattle.query_conditions.specs.Conditions.{condition_of}
use Rattle.query_conditions.specs.Reading.{no_condition, conditions_of}
use Rattle.query_conditions.specs.declared.conditions.Condition.{Condition}
use Rattle.query_conditions.proofs.Columns.{conditions-here, conditions-end}
use Rattle.query_comparisons.specs.Judging.{judged_is}
use Rattle.std.specs.Prelude.{Result, Ok, Err}
use Rattle.query_comparisons.specs.declared.OutOfRange.{OutOfRange}
use Rattle.query_comparisons.proofs.Back.{judged-met, judged-unmet, judged-out}

-- ---- one answer, after others of which `met` says whether they are met

pub next-met : (out b : Bool) {met : Bool} {r : (Result Bool OutOfRange)} → met ≡ true → r ≡ judged_is out b → r ≡ judged_is out (met && b)
next-met out b e h = h ∙ ap (λ (m : Bool). judged_is out (m && b)) (sym e)

pub next-unmet : (out b : Bool) {met : Bool} → met ≡ false → out ≡ false → (Ok false) ≡ judged_is out (met && b)
unfolding judged_is
next-unmet out b e h = sym (ap₂ (λ (o m : Bool). judged_is o (m && b)) h e)

pub next-out : (out b d : Bool) → (Err (record {})) ≡ judged_is out b → (Err (record {})) ≡ judged_is out d
unfolding judged_is
next-out out b d e = sym (ap (λ (o : Bool). judged_is o d) (judged-out out b e))

-- what is judged in range, by whether it meets
pub judged-in : (b out met : Bool) → Ok b ≡ judged_is out met → (out ≡ false) × (met ≡ b)
judged-in true out met e = judged-met out met e
judged-in false out met e = judged-unmet out met e

-- ---- one condition, after others of which `met` says whether they are met

-- the value of its column
abbrev value_for : RuleCondition → Facts → Option (Option Bytes)
value_for c f = value_at c.column f.partition_values

abbrev pub Says : RuleCondition → Facts → Bool → Result Bool OutOfRange → Type 0
Says c f met r = r ≡ judged_is (out_of c (value_for c f)) (met && meets_value c (value_for c f))

-- what conditions say, after others
abbrev saying : Facts → Bool → List RuleCondition → Result Bool OutOfRange
saying f met cs = judged_is (any_out_of cs f) (met && meets_all cs f)

module _ (c : RuleCondition) (cs : List RuleCondition) (f : Facts) where
  meets_all-here : meets_value c (value_for c f) ≡ true → meets_all (c ∷ cs) f ≡ meets_all cs f
  unfolding meets_all
  meets_all-here e = rw (meets_all, e)

  meets_all-fails : (met : Bool) → (met && meets_value c (value_for c f)) ≡ false → (met && meets_all (c ∷ cs) f) ≡ false
  unfolding meets_all
  meets_all-fails true e = rw (meets_all, e)
  meets_all-fails false e = and-fails-left (meets_all (c ∷ cs) f) e

  module _ (met : Bool) where
    saying-met : Says c f met (Ok true) → saying f met (c ∷ cs) ≡ saying f met cs
    saying-met e =
        let j = judged-met (out_of c (value_for c f)) (met && meets_value c (value_for c f)) e in
        ap₂ judged_is (any_out_of-past c cs f j.0) (ap (λ (b : Bool). met && b) (meets_all-here (and_right met (meets_value c (value_for c f)) j.1)))

    saying-unmet : Says c f met (Ok false) → saying f met (c ∷ cs) ≡ saying f false cs
    saying-unmet e =
        let j = judged-unmet (out_of c (value_for c f)) (met && meets_value c (value_for c f)) e in
        ap₂ judged_is (any_out_of-past c cs f j.0) (meets_all-fails met j.1)

    saying-out : Says c f met (Err (record {})) → saying f met (c ∷ cs) ≡ (Err (record {}))
    unfolding judged_is
    saying-out e =
        ap (λ (b : Bool). judged_is b (met && meets_all (c ∷ cs) f))
        (any_out_of-here c cs f (judged-out (out_of c (value_for c f)) (met && meets_value c (value_for c f)) e))

-- ---- all of them, of which k are judged

abbrev pub Going : (q : Text) (n : ℕ) (cs : List Condition) (f : Facts) (k : ℕ) (met : Bool) → Type 0
Going q n cs f k met = saying f true (conditions_of q n cs) ≡ saying f met (drop k (conditions_of q n cs))

module _ (q : Text) (n : ℕ) (cs : List Condition) (l : n ≤ length cs) (f : Facts) (k : ℕ) (met : Bool) (g : Going q n cs f k met) where
  going_end : n ≤ k → saying f true (conditions_of q n cs) ≡ judged_is false (met && true)
  unfolding any_out_of meets_all
  going_end h = g ∙ ap (saying f met) (conditions-end q n cs l k h)

  pub going-all : n ≤ k → Ok met ≡ judged_is (any_out_of (conditions_of q n cs) f) (meets_all (conditions_of q n cs) f)
  unfolding judged_is
  going-all h = told met ∙ sym (going_end h)
    where
      told : (b : Bool) → Ok b ≡ judged_is false (b && true)
      told true = refl
      told false = refl

  module _ (h : k < n) where
    going-here : saying f true (conditions_of q n cs)
        ≡ saying f met (condition_of q (get_or cs k no_condition) ∷ drop (k + 1) (conditions_of q n cs))
    going-here = g ∙ ap (saying f met) (conditions-here q n cs l k h)

    going-met : Says (condition_of q (get_or cs k no_condition)) f met (Ok true) → Going q n cs f (k + 1) met
    going-met e = going-here ∙ saying-met _ _ f met e

    going-unmet : Says (condition_of q (get_or cs k no_condition)) f met (Ok false) → Going q n cs f (k + 1) false
    going-unmet e = going-here ∙ saying-unmet _ _ f met e

    pub going-next : (b : Bool) → Says (condition_of q (get_or cs k no_condition)) f met (Ok b) → Going q n cs f (k + 1) b
    going-next false e = going-unmet e
    going-next true e = subst (Going q n cs f (k + 1)) (and_left met _ (judged-met _ _ e).1) (going-met e)

    pub going-out : Says (condition_of q (get_or cs k no_condition)) f met (Err (record {}))
        → (Err (record {})) ≡ judged_is (any_out_of (conditions_of q n cs) f) (meets_all (conditions_of q n cs) f)
    going-out e = sym (going-here ∙ saying-out _ _ f met e)
