-- Picking, dropping and the verdict, test by test.
use mathlib.Core.Path.{◌≡◌, refl, sym, ◌∙◌, ap}
use mathlib.Core.Logic.{inl, inr}
use mathlib.Core.Bool.{Bool, true, false, not}
use Rattle.std.specs.Prelude.{Option, None, Some}
use mathlib.Core.List.{List, [], ◌∷◌}
use Prim.Native.Nat.{ℕ, suc}
use Rattle.facts.specs.Lists.{All}
use Rattle.rules.specs.Bytes.{Bytes, same, keep_if}
use Rattle.rules.specs.Actions.{Facts}
use Rattle.rules.specs.Gate.{writable}
use Rattle.rules.specs.Query.{Number, number, out_of_range, not_number, number_of, As, as_text, as_number, Op, Condition}
use Rattle.rules.specs.Picking.{meets, order_of_numbers, meets_number, meets_as, value_at, meets_value, meets_all, picked}
use Rattle.rules.specs.Manifests.{Bounds, Manifest, outside_as, both_there, dropped, kept_from}
use Rattle.rules.specs.Manifests as Rules
use Rattle.rules.proofs.Tests.{apart, true-not-false, true_of}
use Rattle.rules.proofs.Dropping.{outside_texts-true, excludes-outside_texts, outside_numbers-true, excludes-outside_numbers}
use Rattle.demands.specs.Choosing.{MeetsAs, Meets, MeetsEvery, Picks, no_more, picks, passes, PicksExactly, ExcludesAs}
use Rattle.demands.specs.Choosing.{bounds_at, Drops, Dropped, Keeps, keeps, drops, KeepsExactly, WritableExactly}
use Rattle.demands.proofs.CleaningWords.{not_writable-false, false-not_writable}

-- ---- picking

meets_number-true : (op : Op) (x b : Number) → meets_number op x b ≡ true
    → (m n : _) × (x ≡ number m) × (b ≡ number n) × (meets op (order_of_numbers m n) ≡ true)
unfolding meets_number
meets_number-true op (number x) (number b) h = (x, b, refl, refl, h)
meets_number-true op (number x) out_of_range h = apart (cc)
meets_number-true op (number x) not_number h = apart (cc)
meets_number-true op out_of_range b h = apart (cc)
meets_number-true op not_number b h = apart (cc)

meets_as-true : (kind : As) (op : Op) (x b : Bytes) → meets_as kind op x b ≡ true → MeetsAs kind op x b
unfolding meets_as
meets_as-true as_text op x b h = h
meets_as-true as_number op x b h = meets_number-true op (number_of x) (number_of b) h

true-meets_as : (kind : As) (op : Op) (x b : Bytes) → MeetsAs kind op x b → meets_as kind op x b ≡ true
unfolding meets_as meets_number
true-meets_as as_text op x b h = h
true-meets_as as_number op x b (m, n, e, f, h) = rw (e, f) h

meets_value-true : (c : Condition) (f : Facts) → meets_value c (value_at c.column f.partition_values) ≡ true → Meets c f
unfolding meets_value
meets_value-true c f h = go (value_at c.column f.partition_values) refl h
  where
    go : (o : Option (Option Bytes)) → value_at c.column f.partition_values ≡ o → meets_value c o ≡ true → Meets c f
    go None e h = apart (cc)
    go (Some None) e h = apart (cc)
    go (Some (Some x)) e h = (x, e, meets_as-true c.kind c.op x c.bound h)

true-meets_value : (c : Condition) (f : Facts) → Meets c f → meets_value c (value_at c.column f.partition_values) ≡ true
unfolding meets_value
true-meets_value c f (x, e, h) = ap (meets_value c) e ∙ true-meets_as c.kind c.op x c.bound h

pub meets_all-true : (cs : List Condition) (f : Facts) → meets_all cs f ≡ true → MeetsEvery cs f
unfolding meets_all All
meets_all-true [] f h = tt
meets_all-true (c ∷ cs) f h = go (meets_value c (value_at c.column f.partition_values)) refl h (meets_all-true cs f)
  where
    go : (b : Bool) → meets_value c (value_at c.column f.partition_values) ≡ b → elim b [ true ↦ meets_all cs f | false ↦ false ] ≡ true
        → (meets_all cs f ≡ true → MeetsEvery cs f) → MeetsEvery (c ∷ cs) f
    go true e h ih = (meets_value-true c f e, ih h)
    go false e h ih = apart (cc)

true-meets_all : (cs : List Condition) (f : Facts) → MeetsEvery cs f → meets_all cs f ≡ true
unfolding meets_all All
true-meets_all [] f h = refl
true-meets_all (c ∷ cs) f h = rw (meets_all, true-meets_value c f h.0) (true-meets_all cs f h.1)

pub picks-exactly : PicksExactly
unfolding picked keep_if
picks-exactly cs [] = no_more
picks-exactly cs (r ∷ rs) = go (meets_all cs r.facts) refl (picks-exactly cs rs)
  where
    go : (b : Bool) → meets_all cs r.facts ≡ b → Picks cs rs (picked cs rs) → Picks cs (r ∷ rs) (keep_if b r (picked cs rs))
    go true e ih = picks (meets_all-true cs r.facts e) ih
    go false e ih = passes (λ h. true-not-false (true-meets_all cs r.facts h) e) ih

-- ---- dropping

outside_as-true : (kind : As) (op : Op) (b lo hi : Bytes) → outside_as kind op b lo hi ≡ true → ExcludesAs kind op b lo hi
unfolding outside_as
outside_as-true as_text op b lo hi h = let e = outside_texts-true op b lo hi h in record { rises = e.rises; none-meets = e.none-meets }
outside_as-true as_number op b lo hi h =
    let e = outside_numbers-true op (number_of b) (number_of lo) (number_of hi) h in
    (e.bound, e.min, e.max, e.bound-read, e.min-read, e.max-read, record { rises = e.excludes.rises; none-meets = e.excludes.none-meets })

true-outside_as : (kind : As) (op : Op) (b lo hi : Bytes) → ExcludesAs kind op b lo hi → outside_as kind op b lo hi ≡ true
unfolding outside_as
true-outside_as as_text op b lo hi e = excludes-outside_texts (record { rises = e.rises; none-meets = e.none-meets })
true-outside_as as_number op b lo hi (x, y, z, p, q, r, e) =
    excludes-outside_numbers
    (record { bound = x; min = y; max = z; bound-read = p; min-read = q; max-read = r; excludes = record { rises = e.rises; none-meets = e.none-meets } })

both_there-true : (c : Condition) (lo hi : Option Bytes) → both_there c lo hi ≡ true
    → (x y : Bytes) × (lo ≡ Some x) × (hi ≡ Some y) × ExcludesAs c.kind c.op c.bound x y
unfolding both_there
both_there-true c None hi h = apart (cc)
both_there-true c (Some x) None h = apart (cc)
both_there-true c (Some x) (Some y) h = (x, y, refl, refl, outside_as-true c.kind c.op c.bound x y h)

-- the test of a column's bounds, where they are
test_at : Condition → Option Bounds → Bool
test_at c None = false
test_at c (Some b) = both_there c b.min b.max

drops-is : (c : Condition) (bs : List (Bytes × Bounds)) → Rules.drops c bs ≡ test_at c (bounds_at c.column bs)
unfolding Rules.drops test_at bounds_at
drops-is c [] = refl
drops-is c (b ∷ bs) = go (same c.column b.0) (drops-is c bs)
  where
    go : (t : Bool) → Rules.drops c bs ≡ test_at c (bounds_at c.column bs)
        → elim t [ true ↦ both_there c b.1.min b.1.max | false ↦ Rules.drops c bs ]
        ≡ test_at c (elim t as (λ _. Option Bounds) [ true ↦ Some b.1 | false ↦ bounds_at c.column bs ])
    go true ih = refl
    go false ih = ih

drops-true : (c : Condition) (m : Manifest) → Rules.drops c m.bounds ≡ true → Drops c m
unfolding test_at
drops-true c m h = go (bounds_at c.column m.bounds) refl (sym (drops-is c m.bounds) ∙ h)
  where
    go : (o : Option Bounds) → bounds_at c.column m.bounds ≡ o → test_at c o ≡ true → Drops c m
    go None e h = apart (cc)
    go (Some b) e h =
        let r = both_there-true c b.min b.max h in
        record { bounds = b; min = r.0; max = r.1; bounds-there = e; min-there = r.2; max-there = r.3; excludes = r.4 }

true-drops : (c : Condition) (m : Manifest) → Drops c m → Rules.drops c m.bounds ≡ true
unfolding test_at both_there
true-drops c m d =
    drops-is c m.bounds ∙ rw (d.bounds-there, d.min-there, d.max-there) (true-outside_as c.kind c.op c.bound d.min d.max d.excludes)

pub dropped-true : (cs : List Condition) (m : Manifest) → dropped cs m ≡ true → Dropped cs m
unfolding dropped
dropped-true [] m h = apart (cc)
dropped-true (c ∷ cs) m h = go (Rules.drops c m.bounds) refl h (dropped-true cs m)
  where
    go : (b : Bool) → Rules.drops c m.bounds ≡ b → elim b [ true ↦ true | false ↦ dropped cs m ] ≡ true → (dropped cs m ≡ true → Dropped cs m)
        → Dropped (c ∷ cs) m
    go true e h ih = inl (drops-true c m e)
    go false e h ih = inr (ih h)

true-dropped : (cs : List Condition) (m : Manifest) → Dropped cs m → dropped cs m ≡ true
unfolding dropped
true-dropped [] m h = absurd h
true-dropped (c ∷ cs) m (inl d) = rw (dropped, true-drops c m d)
true-dropped (c ∷ cs) m (inr h) = go (Rules.drops c m.bounds) (true-dropped cs m h)
  where
    go : (b : Bool) → dropped cs m ≡ true → elim b [ true ↦ true | false ↦ dropped cs m ] ≡ true
    go true e = refl
    go false e = e

kept-exactly : (k : ℕ) (cs : List Condition) (ms : List Manifest) → Keeps cs k ms (kept_from k cs ms)
unfolding kept_from keep_if
kept-exactly k cs [] = no_more
kept-exactly k cs (m ∷ ms) = go (dropped cs m) refl (kept-exactly (suc k) cs ms)
  where
    go : (b : Bool) → dropped cs m ≡ b → Keeps cs (suc k) ms (kept_from (suc k) cs ms) → Keeps cs k (m ∷ ms) (keep_if (not b) k (kept_from (suc k) cs ms))
    go true e ih = drops (dropped-true cs m e) ih
    go false e ih = keeps (λ d. true-not-false (true-dropped cs m d) e) ih

pub keeps-exactly : KeepsExactly
keeps-exactly cs ms = kept-exactly 0 cs ms

-- ---- the verdict

pub writable-exactly : WritableExactly
writable-exactly p = ((λ e n. true-not-false e (not_writable-false p n)), (λ n. true_of (writable p) (λ e. n (false-not_writable p e))))
