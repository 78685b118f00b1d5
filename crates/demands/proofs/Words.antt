-- The paper's words and the rules' tests: too large, unknown, foreign, out of range.
use mathlib.Core.Path.{◌≡◌, refl, ap, ◌∙◌}
use mathlib.Core.Logic.{inl, inr}
use mathlib.Core.Bool.{Bool, true, false, ◌&&◌}
use Rattle.std.specs.Prelude.{Option, None, Some}
use mathlib.Core.List.{List, [], ◌∷◌}
use Rattle.rules.specs.Bytes.{Bytes, holds, all_among, same_set, firsts}
use Rattle.rules.specs.Bundle.{File}
use Rattle.rules.specs.Names.{Name, version, checkpoint, marker, other, too_large, name_of, is_too_large, any_too_large}
use Rattle.rules.specs.Actions.{Facts, MetaData, Action, add, remove, protocol, meta_data, mergeskip, other as another}
use Rattle.rules.specs.Live.{Row}
use Rattle.rules.specs.Query.{Number, number, out_of_range, not_number, number_of, is_out_of_range, As, as_text, as_number, Condition}
use Rattle.rules.specs.Picking.{value_at, out_of_as, out_of, any_out_of, in_range_all}
use Rattle.rules.specs.History.{Origin, of_version, of_checkpoint, fits}
use Rattle.rules.proofs.Tests.{apart, true-not-false, true_of, false_of, and_left, and_right}
use Rattle.rules.proofs.Holding.{holds-head, holds-tail, all_among-holds}
use Rattle.demands.specs.Met.{Unknown, Foreign, other_key, missing-key}
use Rattle.demands.specs.Exactly.{SomeTooLarge, OutOf, AnyOutOf, SomeOutOf}

-- ---- a version in a name is too large

is_too_large-true : (n : Name) → is_too_large n ≡ true → n ≡ too_large
unfolding is_too_large
is_too_large-true (version v) e = apart (cc)
is_too_large-true (checkpoint c) e = apart (cc)
is_too_large-true marker e = apart (cc)
is_too_large-true other e = apart (cc)
is_too_large-true too_large e = refl

pub any_too_large-some : (fs : List File) → any_too_large fs ≡ true → SomeTooLarge fs
unfolding any_too_large
any_too_large-some [] h = apart (cc)
any_too_large-some (f ∷ fs) h = go (is_too_large (name_of f.name)) refl h (any_too_large-some fs)
  where
    go : (b : Bool) → is_too_large (name_of f.name) ≡ b → elim b [ true ↦ true | false ↦ any_too_large fs ] ≡ true → (any_too_large fs ≡ true → SomeTooLarge fs)
        → SomeTooLarge (f ∷ fs)
    go true e h ih = inl (is_too_large-true (name_of f.name) e)
    go false e h ih = inr (ih h)

pub some-any_too_large : (fs : List File) → SomeTooLarge fs → any_too_large fs ≡ true
unfolding any_too_large is_too_large
some-any_too_large [] h = absurd h
some-any_too_large (f ∷ fs) (inl e) = rw (any_too_large, e)
some-any_too_large (f ∷ fs) (inr h) = go (is_too_large (name_of f.name)) (some-any_too_large fs h)
  where
    go : (b : Bool) → any_too_large fs ≡ true → elim b [ true ↦ true | false ↦ any_too_large fs ] ≡ true
    go true e = refl
    go false e = e

pub none-any_too_large : (fs : List File) → (SomeTooLarge fs → ⊥) → any_too_large fs ≡ false
none-any_too_large fs h = false_of (any_too_large fs) (λ e. h (any_too_large-some fs e))

-- ---- one that is not among the names

pub all_among-unknown : (names xs : List Bytes) → all_among names xs ≡ false → Unknown names xs
unfolding all_among
all_among-unknown names [] h = apart (cc)
all_among-unknown names (x ∷ xs) h = go (holds x names) refl h (all_among-unknown names xs)
  where
    go : (b : Bool) → holds x names ≡ b → elim b [ true ↦ all_among names xs | false ↦ false ] ≡ false → (all_among names xs ≡ false → Unknown names xs)
        → Unknown names (x ∷ xs)
    go true e h ih = let u = ih h in (u.0, holds-tail u.0 x xs u.1, u.2)
    go false e h ih = (x, holds-head x x xs refl, e)

pub unknown-all_among : (names xs : List Bytes) → Unknown names xs → all_among names xs ≡ false
unknown-all_among names xs (x, h, n) = false_of (all_among names xs) (λ e. true-not-false (all_among-holds names xs e x h) n)

pub known-all_among : (names xs : List Bytes) → (Unknown names xs → ⊥) → all_among names xs ≡ true
known-all_among names xs h = true_of (all_among names xs) (λ e. h (all_among-unknown names xs e))

pub all_among-known : (names xs : List Bytes) → all_among names xs ≡ true → Unknown names xs → ⊥
all_among-known names xs e u = true-not-false e (unknown-all_among names xs u)

-- ---- an add whose keys are not the columns

pub fits-foreign : (of : Origin) (a : Action) (m : MetaData) → fits of a m ≡ false → Foreign of a m
unfolding fits same_set
fits-foreign of_version (add f) m h =
    go (all_among m.partition_columns (firsts f.partition_values)) refl (all_among (firsts f.partition_values) m.partition_columns) refl h
  where
    go : (b : Bool) → all_among m.partition_columns (firsts f.partition_values) ≡ b
        → (c : Bool) → all_among (firsts f.partition_values) m.partition_columns ≡ c → (b && c) ≡ false → Foreign of_version (add f) m
    go false p c q h = other_key (all_among-unknown m.partition_columns (firsts f.partition_values) p)
    go true p false q h = missing-key (all_among-unknown (firsts f.partition_values) m.partition_columns q)
    go true p true q h = apart (cc)
fits-foreign of_version (remove p) m h = apart (cc)
fits-foreign of_version (protocol p) m h = apart (cc)
fits-foreign of_version (meta_data n) m h = apart (cc)
fits-foreign of_version (mergeskip p k) m h = apart (cc)
fits-foreign of_version another m h = apart (cc)
fits-foreign of_checkpoint a m h = apart (cc)

pub foreign-fits : (of : Origin) (a : Action) (m : MetaData) → Foreign of a m → fits of a m ≡ false
unfolding fits same_set
foreign-fits _ _ m (other_key {f = f} u) =
    false_of (same_set (firsts f.partition_values) m.partition_columns)
    (λ e. all_among-known m.partition_columns (firsts f.partition_values)
    (and_left (all_among m.partition_columns (firsts f.partition_values)) (all_among (firsts f.partition_values) m.partition_columns) e) u)
foreign-fits _ _ m (missing-key {f = f} u) =
    false_of (same_set (firsts f.partition_values) m.partition_columns)
    (λ e. all_among-known (firsts f.partition_values) m.partition_columns
    (and_right (all_among m.partition_columns (firsts f.partition_values)) (all_among (firsts f.partition_values) m.partition_columns) e) u)

pub none-foreign-fits : (of : Origin) (a : Action) (m : MetaData) → (Foreign of a m → ⊥) → fits of a m ≡ true
none-foreign-fits of a m h = true_of (fits of a m) (λ e. h (fits-foreign of a m e))

pub fits-none-foreign : (of : Origin) (a : Action) (m : MetaData) → fits of a m ≡ true → Foreign of a m → ⊥
fits-none-foreign of a m e h = true-not-false e (foreign-fits of a m h)

-- ---- a value out of range

is_out_of_range-true : (n : Number) → is_out_of_range n ≡ true → n ≡ out_of_range
unfolding is_out_of_range
is_out_of_range-true (number z) e = apart (cc)
is_out_of_range-true out_of_range e = refl
is_out_of_range-true not_number e = apart (cc)

out_of_as-true : (k : As) (x : Bytes) → out_of_as k x ≡ true → (k ≡ as_number) × (number_of x ≡ out_of_range)
unfolding out_of_as
out_of_as-true as_text x e = apart (cc)
out_of_as-true as_number x e = (refl, is_out_of_range-true (number_of x) e)

out_of-words : (c : Condition) (f : Facts) → out_of c (value_at c.column f.partition_values) ≡ true → OutOf c f
unfolding out_of
out_of-words c f h = go (value_at c.column f.partition_values) refl h
  where
    go : (o : Option (Option Bytes)) → value_at c.column f.partition_values ≡ o → out_of c o ≡ true → OutOf c f
    go None e h = apart (cc)
    go (Some None) e h = apart (cc)
    go (Some (Some x)) e h = let p = out_of_as-true c.kind x h in (p.0, (x, e, p.1))

words-out_of : (c : Condition) (f : Facts) → OutOf c f → out_of c (value_at c.column f.partition_values) ≡ true
unfolding out_of out_of_as is_out_of_range
words-out_of c f (k, (x, e, n)) = ap (out_of c) e ∙ ap (λ (y : As). out_of_as y x) k ∙ ap is_out_of_range n

any_out_of-words : (cs : List Condition) (f : Facts) → any_out_of cs f ≡ true → AnyOutOf cs f
unfolding any_out_of
any_out_of-words [] f h = apart (cc)
any_out_of-words (c ∷ cs) f h = go (out_of c (value_at c.column f.partition_values)) refl h (any_out_of-words cs f)
  where
    go : (b : Bool) → out_of c (value_at c.column f.partition_values) ≡ b → elim b [ true ↦ true | false ↦ any_out_of cs f ] ≡ true
        → (any_out_of cs f ≡ true → AnyOutOf cs f) → AnyOutOf (c ∷ cs) f
    go true e h ih = inl (out_of-words c f e)
    go false e h ih = inr (ih h)

words-any_out_of : (cs : List Condition) (f : Facts) → AnyOutOf cs f → any_out_of cs f ≡ true
unfolding any_out_of
words-any_out_of [] f h = absurd h
words-any_out_of (c ∷ cs) f (inl e) = rw (any_out_of, words-out_of c f e)
words-any_out_of (c ∷ cs) f (inr h) = go (out_of c (value_at c.column f.partition_values)) (words-any_out_of cs f h)
  where
    go : (b : Bool) → any_out_of cs f ≡ true → elim b [ true ↦ true | false ↦ any_out_of cs f ] ≡ true
    go true e = refl
    go false e = e

pub in_range_all-words : (cs : List Condition) (rs : List Row) → in_range_all cs rs ≡ false → SomeOutOf cs rs
unfolding in_range_all
in_range_all-words cs [] h = apart (cc)
in_range_all-words cs (r ∷ rs) h = go (any_out_of cs r.facts) refl h (in_range_all-words cs rs)
  where
    go : (b : Bool) → any_out_of cs r.facts ≡ b → elim b [ true ↦ false | false ↦ in_range_all cs rs ] ≡ false
        → (in_range_all cs rs ≡ false → SomeOutOf cs rs) → SomeOutOf cs (r ∷ rs)
    go true e h ih = inl (any_out_of-words cs r.facts e)
    go false e h ih = inr (ih h)

pub words-in_range_all : (cs : List Condition) (rs : List Row) → SomeOutOf cs rs → in_range_all cs rs ≡ false
unfolding in_range_all
words-in_range_all cs [] h = absurd h
words-in_range_all cs (r ∷ rs) (inl h) = rw (in_range_all, words-any_out_of cs r.facts h)
words-in_range_all cs (r ∷ rs) (inr h) = go (any_out_of cs r.facts) (words-in_range_all cs rs h)
  where
    go : (b : Bool) → in_range_all cs rs ≡ false → elim b [ true ↦ false | false ↦ in_range_all cs rs ] ≡ false
    go true e = refl
    go false e = e

pub none-in_range_all : (cs : List Condition) (rs : List Row) → (SomeOutOf cs rs → ⊥) → in_range_all cs rs ≡ true
none-in_range_all cs rs h = true_of (in_range_all cs rs) (λ e. h (in_range_all-words cs rs e))

pub in_range_all-none : (cs : List Condition) (rs : List Row) → in_range_all cs rs ≡ true → SomeOutOf cs rs → ⊥
in_range_all-none cs rs e h = true-not-false e (words-in_range_all cs rs h)
