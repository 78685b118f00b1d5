-- What drops a manifest, by its columns as they stand.
use mathlib.Core.Path.{◌≡◌, refl, sym, ap, ◌∙◌, subst}
use mathlib.Core.Bool.{Bool, true, false}
use Rattle.std.specs.Prelude.{Option, None, Some}
use Rattle.std.specs.Option.{option_flatten}
use Rattle.std.specs.List.{list_any}
use mathlib.Core.List.{List, [], ◌∷◌, map}
use Prim.Native.Nat.{ℕ}
use lib.ListN.{take, drop}
use Rattle.rules.specs.Bytes.{Bytes, same}
use Rattle.rules.specs.Query.{Condition}
use Rattle.rules.specs.Manifests.{Bounds, Manifest, bounds_of, columns_in, outside_as, both_there, drops, dropped}
use Rattle.rules.specs.Json.Text.{Text}
use Rattle.rules.specs.Json.Values.{Member}
use Rattle.rules.proofs.Tests.{apart}
use Rattle.rules.proofs.Json.Suffix.{some_same, bound, answered-none}
use Rattle.field_objects.specs.Lookup.{lookup}
use Rattle.query_conditions.specs.Conditions.{condition_of}
use Rattle.query_conditions.specs.Reading.{conditions_of}
use Rattle.query_conditions.specs.declared.conditions.Condition.{Condition as Said}
use Rattle.json_strings.specs.Decoded.{decoded}
use Rattle.manifest_state.specs.Ranges.{from_to, Both, RangeIs}
use Rattle.manifest_state.specs.Tables.{Table}
use Rattle.manifests.specs.Verdicts.{verdict_by, verdict_of}

-- ---- bounds

-- both are stated
pub range-both : (o : Option Bounds) (x : Text) (r : Option (Option (ℕ × ℕ))) → RangeIs o x r → (lo hi : ℕ) → Some (lo, hi) ≡ option_flatten r → Both o x lo hi
range-both o x None w lo hi e = apart (cc)
range-both o x (Some None) w lo hi e = apart (cc)
range-both o x (Some (Some (a, b))) w lo hi e =
    let same : ◌≡◌ {A = Option (ℕ × ℕ)} (Some (a, b)) (Some (lo, hi)) = sym e in
    subst (λ (s : Option (ℕ × ℕ)). RangeIs o x (Some s)) same w

-- ---- one condition

drops-here : (c : Condition) (b : Bytes × Bounds) (bs : Table) → same c.column b.0 ≡ true → drops c (b ∷ bs) ≡ both_there c b.1.min b.1.max
unfolding drops
drops-here c b bs e = rw (drops, e)

drops-past : (c : Condition) (b : Bytes × Bounds) (bs : Table) → same c.column b.0 ≡ false → drops c (b ∷ bs) ≡ drops c bs
unfolding drops
drops-past c b bs e = rw (drops, e)

lookup-here : (name : Bytes) (m : Member) (ms : List Member) → same name m.0 ≡ true → lookup name (m ∷ ms) ≡ Some m.1
unfolding lookup
lookup-here name m ms e = rw (lookup, e)

lookup-past : (name : Bytes) (m : Member) (ms : List Member) → same name m.0 ≡ false → lookup name (m ∷ ms) ≡ lookup name ms
unfolding lookup
lookup-past name m ms e = rw (lookup, e)

-- what the condition asks of its column, if the column is there
abbrev asks : Condition → Option Text → Bool → Type 0
asks c None b = b ≡ false
asks c (Some x) b = (s : Bounds) × (bounds_of x ≡ Some s) × (b ≡ both_there c s.min s.max)

drops-asks : (c : Condition) (ms : List Member) (bs : Table) → columns_in ms ≡ Some bs → asks c (lookup c.column ms) (drops c bs)
unfolding lookup columns_in drops
drops-asks c [] bs e = sym (ap (drops c) (some_same e))
drops-asks c (m ∷ ms) bs e =
    bound (bounds_of m.1) _ e (λ s f g.
    bound (columns_in ms) _ g (λ more h i. go (drops-asks c ms more h) s f (sym (some_same i)) (same c.column m.0) refl))
  where
    go : {more : Table} → asks c (lookup c.column ms) (drops c more) → (s : Bounds) → bounds_of m.1 ≡ Some s → bs ≡ (m.0, s) ∷ more
        → (test : Bool) → same c.column m.0 ≡ test → asks c (lookup c.column (m ∷ ms)) (drops c bs)
    go {more} ih s f i true t = subst (λ o. asks c o (drops c bs)) (sym (lookup-here c.column m ms t)) (s, f, ap (drops c) i ∙ drops-here c (m.0, s) more t)
    go {more} ih s f i false t = subst (λ o. asks c o (drops c bs)) (sym (lookup-past c.column m ms t))
        (subst (λ (b : Bool). asks c (lookup c.column ms) b) (sym (ap (drops c) i ∙ drops-past c (m.0, s) more t)) ih)

module _ (c : Condition) (ms : List Member) (bs : Table) (e : columns_in ms ≡ Some bs) where
  pub drops-missing : lookup c.column ms ≡ None → false ≡ drops c bs
  drops-missing n = sym (subst (λ o. asks c o (drops c bs)) n (drops-asks c ms bs e))

  module _ (x : Text) (f : lookup c.column ms ≡ Some x) where
    drops-found : (s : Bounds) × (bounds_of x ≡ Some s) × (drops c bs ≡ both_there c s.min s.max)
    drops-found = subst (λ o. asks c o (drops c bs)) f (drops-asks c ms bs e)

    drops-bounds : (s : Bounds) → bounds_of x ≡ Some s → drops c bs ≡ both_there c s.min s.max
    drops-bounds s g =
        let (t, h, i) = drops-found in
        i ∙ ap (λ (b : Bounds). both_there c b.min b.max) (some_same (sym h ∙ g))

    pub drops-by : (lo hi : ℕ) → Both (bounds_of x) x lo hi → {b : Bool}
        → b ≡ outside_as c.kind c.op c.bound (decoded (drop lo x)) (decoded (drop hi x)) → b ≡ drops c bs
    unfolding both_there
    drops-by lo hi r g = g ∙ sym (drops-bounds (from_to x lo hi) r.says)

    -- one of them is missing; malformed they cannot be
    pub drops-open : (r : Option (Option (ℕ × ℕ))) → RangeIs (bounds_of x) x r → None ≡ option_flatten r → false ≡ drops c bs
    drops-open None w e = let (t, h, i) = drops-found in answered-none h w
    drops-open (Some None) w e = sym (drops-bounds w.bounds w.says ∙ w.drops-none c)
    drops-open (Some (Some (a, b))) w e = apart (cc)

-- ---- all conditions

module _ (m : Manifest) where
  dropped-past : (c : Condition) (cs : List Condition) → drops c m.bounds ≡ false → dropped (c ∷ cs) m ≡ dropped cs m
  unfolding dropped
  dropped-past c cs e = rw (dropped, e)

  -- a manifest that states no columns
  pub dropped-none : (cs : List Condition) → m.bounds ≡ [] → dropped cs m ≡ false
  unfolding dropped drops
  dropped-none [] e = refl
  dropped-none (c ∷ cs) e = dropped-past c cs (ap (drops c) e) ∙ dropped-none cs e

  -- whether one of the first n conditions drops it
  pub dropped-any : (q : Text) (n : ℕ) (cs : List Said)
      → list_any (λ (c : Said). drops (condition_of q c) m.bounds) (take n cs) ≡ dropped (conditions_of q n cs) m
  unfolding conditions_of dropped
  dropped-any q n cs = each (take n cs)
    where
      each : (xs : List Said) → list_any (λ (c : Said). drops (condition_of q c) m.bounds) xs ≡ dropped (map (condition_of q) xs) m
      each [] = refl
      each (x ∷ xs) = go (each xs) (drops (condition_of q x) m.bounds) refl
        where
          go : list_any (λ (c : Said). drops (condition_of q c) m.bounds) xs ≡ dropped (map (condition_of q) xs) m
              → (b : Bool) → drops (condition_of q x) m.bounds ≡ b
              → list_any (λ (c : Said). drops (condition_of q c) m.bounds) (x ∷ xs) ≡ dropped (map (condition_of q) (x ∷ xs)) m
          go ih true e = rw (dropped, e)
          go ih false e = rw (dropped, e, ih)

-- ---- the verdict

pub verdict-kept : (cs : List Condition) {o : Option Manifest} {m : Manifest} → o ≡ Some m → dropped cs m ≡ false → Some true ≡ verdict_of cs o
verdict-kept cs e f = sym (ap (verdict_of cs) e ∙ ap verdict_by f)
