-- The conditions, and the columns at positions, from one on: the first of them, and the others. Then the positions of the conditions' columns.
use mathlib.Core.Path.{◌≡◌, refl, sym, ap, ◌∙◌, subst}
use mathlib.Core.Bool.{Bool, true, false}
use mathlib.Core.List.{List, [], ◌∷◌, map}
use Prim.Native.Nat.{ℕ, ◌+◌, ◌≤◌, ◌<◌}
use native.Mathlib.Omega.{arith}
use lib.ListN.{length, take, drop, get_or, length-map, length-take, get_or-map, drop_of_length-le}
use lib.Seq.{get_or-take, length-take-le}
use Rattle.std.specs.List.{list_any}
use Rattle.std.proofs.lemmas.Grind.{same_number_lists}
use Rattle.facts.specs.Lists.{All}
use Rattle.facts.proofs.Lists.{drop_here, All-of, All-weaken, All-map}
use Rattle.rules.specs.Bytes.{Bytes, same, holds, distinct}
use Rattle.rules.specs.Json.Text.{Text}
use Rattle.rules.specs.Query.{Condition as RuleCondition, column_of}
use Rattle.rules.proofs.Holding.{distinct_cons, distinct-held}
use Rattle.json_strings.specs.Decoded.{decoded, WellSpelled}
use Rattle.query_conditions.specs.Conditions.{condition_of, Sound}
use Rattle.query_conditions.specs.Reading.{no_condition, conditions_of, columns_of, names_at, Sounds}
use Rattle.query_conditions.specs.declared.conditions.Condition.{Condition}

module _ (q : Text) (n : ℕ) (cs : List Condition) (l : n ≤ length cs) where
  conditions-length : length (conditions_of q n cs) ≡ n
  unfolding conditions_of
  conditions-length = length-map (take n cs) (condition_of q) ∙ length-take-le n cs l

  pub conditions-here : (k : ℕ) → k < n → drop k (conditions_of q n cs) ≡ condition_of q (get_or cs k no_condition) ∷ drop (k + 1) (conditions_of q n cs)
  unfolding conditions_of
  conditions-here k h =
      drop_here (conditions_of q n cs) k (condition_of q no_condition) (omega (arith, conditions-length))
      ∙ ap (λ (c : RuleCondition). c ∷ drop (k + 1) (conditions_of q n cs))
      (get_or-map (condition_of q) (take n cs) k no_condition ∙ ap (condition_of q) (get_or-take n cs k no_condition h))

  pub conditions-end : (k : ℕ) → n ≤ k → drop k (conditions_of q n cs) ≡ []
  conditions-end k h = drop_of_length-le (conditions_of q n cs) {i = k} (omega (arith, conditions-length))

-- ---- whether x is among the columns that are spelled at positions

pub any-held : (q : Text) (x : Bytes) (ps : List ℕ) → list_any (λ (p : ℕ). same x (decoded (drop p q))) ps ≡ holds x (names_at q ps)
unfolding holds names_at
any-held q x [] = refl
any-held q x (p ∷ ps) = go (any-held q x ps) (same x (decoded (drop p q))) refl
  where
    go : list_any (λ (p : ℕ). same x (decoded (drop p q))) ps ≡ holds x (names_at q ps) → (b : Bool) → same x (decoded (drop p q)) ≡ b
        → list_any (λ (p : ℕ). same x (decoded (drop p q))) (p ∷ ps) ≡ holds x (names_at q (p ∷ ps))
    go ih true e = rw (holds, e)
    go ih false e = rw (holds, e, ih)

-- ---- the columns that are spelled at positions

module _ (q : Text) (ps : List ℕ) where
  names-end : (k : ℕ) → length ps ≤ k → names_at q (drop k ps) ≡ []
  unfolding names_at
  names-end k h = ap (names_at q) (drop_of_length-le ps {i = k} h)

  names-here : (k : ℕ) → k < length ps → names_at q (drop k ps) ≡ decoded (drop (get_or ps k 0) q) ∷ names_at q (drop (k + 1) ps)
  unfolding names_at
  names-here k h = ap (names_at q) (drop_here ps k 0 h)

  -- ---- whether they differ

  pub columns-none : (k : ℕ) → length ps ≤ k → true ≡ distinct (names_at q (drop k ps))
  unfolding distinct
  columns-none k h = sym (ap distinct (names-end k h))

  module _ (k : ℕ) (h : k < length ps) where
    pub columns-twice : holds (decoded (drop (get_or ps k 0) q)) (names_at q (drop (k + 1) ps)) ≡ true → false ≡ distinct (names_at q (drop k ps))
    columns-twice e = sym (ap distinct (names-here k h) ∙ distinct-held _ _ e)

    pub columns-past : holds (decoded (drop (get_or ps k 0) q)) (names_at q (drop (k + 1) ps)) ≡ false
        → distinct (names_at q (drop k ps)) ≡ distinct (names_at q (drop (k + 1) ps))
    columns-past e = ap distinct (names-here k h) ∙ distinct_cons _ _ e

-- ---- the positions at which the columns of conditions are spelled

abbrev pub places_of : List Condition → List ℕ
places_of cs = map (λ (c : Condition). c.column) cs

-- by each of them
pub places-each : (ps : List ℕ) (cs : List Condition) → length ps ≡ length cs
    → ((k : ℕ) → k < length cs → get_or ps k 0 ≡ (get_or cs k no_condition).column) → ps ≡ places_of cs
places-each ps cs size each =
    same_number_lists ps (places_of cs) (omega (arith, length-map cs (λ (c : Condition). c.column))) (λ k h.
    let l : k < length cs = omega arith in
    each k l ∙ sym (get_or-map (λ (c : Condition). c.column) cs k no_condition))

module _ (q : Text) (n : ℕ) (cs : List Condition) where
  pub places-names : names_at q (places_of (take n cs)) ≡ columns_of q n cs
  unfolding names_at columns_of conditions_of column_of
  places-names = each (take n cs)
    where
      each : (xs : List Condition) → names_at q (places_of xs) ≡ map column_of (map (condition_of q) xs)
      each [] = refl
      each (x ∷ xs) = ap (λ (l : List Bytes). decoded (drop x.column q) ∷ l) (each xs)

  pub sounds-all : Sounds q n cs → All (Sound q) (take n cs)
  sounds-all s = All-of (Sound q) (take n cs) no_condition each
    where
      each : (i : ℕ) → i < length (take n cs) → Sound q (get_or (take n cs) i no_condition)
      each i h =
          let b : i < n = omega (arith, length-take n cs) in
          subst (Sound q) (sym (get_or-take n cs i no_condition b)) (s.each i b)

  pub places-spelled : Sounds q n cs → All (WellSpelled q) (places_of (take n cs))
  places-spelled s =
      All-map (WellSpelled q) (λ (c : Condition). c.column) (take n cs)
      (All-weaken (Sound q) (λ (c : Condition). WellSpelled q c.column) (take n cs) (λ c t. t.column) (sounds-all s))
