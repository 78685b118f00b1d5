-- The columns of a manifest: one after another, and as a text of their own.
use mathlib.Core.Path.{◌≡◌, refl, ap, ◌∙◌}
use mathlib.Core.Bool.{Bool, true, false}
use Rattle.std.specs.Prelude.{Option, None, Some}
use mathlib.Core.List.{List, [], ◌∷◌}
use Prim.Native.Nat.{ℕ, ◌≤◌}
use lib.ListN.{length, drop}
use Rattle.rules.specs.Bytes.{Bytes, ◌>>=◌, guard, distinct, firsts, is_empty}
use Rattle.rules.specs.Manifests.{Bounds, in_bounds, bounds_of, columns_in, columns_of}
use Rattle.rules.specs.Json.Text.{Text, ws}
use Rattle.rules.specs.Json.Values.{Member, list, member, contents, value, alone, object_of}
use Rattle.rules.proofs.Json.Steps.{contents-list}
use Rattle.manifest_state.specs.Tables.{Table, Tabled, Standing}
use Rattle.manifest_state.proofs.Gathering.{each, made, Listed}

-- a column with its bounds
abbrev pub column_of : Member → Option (Bytes × Bounds)
column_of m = bounds_of m.1 >>= (λ b. Some (m.0, b))

-- ---- one after another

columns-each : (ms : List Member) → columns_in ms ≡ each column_of ms
unfolding columns_in
columns-each [] = refl
columns-each (m ∷ ms) = go (columns-each ms) (bounds_of m.1)
  where
    go : columns_in ms ≡ each column_of ms → (o : Option Bounds)
        → (o >>= (λ b. columns_in ms >>= (λ bs. Some ((m.0, b) ∷ bs)))) ≡ ((o >>= (λ b. Some (m.0, b))) >>= (λ y. each column_of ms >>= (λ ys. Some (y ∷ ys))))
    go ih None = refl
    go ih (Some b) = ap (λ o. o >>= (λ bs. Some ((m.0, b) ∷ bs))) ih

columns-made : (o : Option (List Member × Text)) → (o >>= (λ p. columns_in p.0)) ≡ made column_of o
columns-made None = refl
columns-made (Some p) = columns-each p.0

pub column-some : (name : Bytes) (v : Text) (b : Bounds) → bounds_of v ≡ Some b → column_of (name, v) ≡ Some (name, b)
column-some name v b e = ap (λ o. o >>= (λ c. Some (name, c))) e

pub column-none : (name : Bytes) (v : Text) → bounds_of v ≡ None → column_of (name, v) ≡ None
column-none name v e = ap (λ o. o >>= (λ c. Some (name, c))) e

module _ (t : Text) (at : ℕ) where
  pub tabled-none : made column_of (list (member (value in_bounds)) 0x7D (drop at t)) ≡ None
      → (contents (value in_bounds) (drop at t) >>= (λ p. columns_in p.0)) ≡ None
  tabled-none e = columns-made (contents (value in_bounds) (drop at t)) ∙ ap (made column_of) (contents-list (value in_bounds) (drop at t)) ∙ e

  pub tabled-listed : (end : ℕ) (bs : Table) → Listed (member (value in_bounds)) 0x7D column_of t at end bs → end ≤ length t
      → Tabled (contents (value in_bounds) (drop at t)) t end
  tabled-listed end bs l h = record {
    ms = l.xs;
    columns = bs;
    all = contents-list (value in_bounds) (drop at t) ∙ l.read;
    each = columns-each l.xs ∙ l.all;
    within = h;
  }

-- ---- a text of their own

module _ (t : Text) where
  abbrev checked : List Member → Option Table
  checked ms = guard (distinct (firsts ms)) >>= (λ _. columns_in ms)

  pub columns-none : object_of in_bounds t ≡ None → columns_of t ≡ None
  unfolding columns_of
  columns-none e = rw (columns_of, e)

  columns-checked : (ms : List Member) → object_of in_bounds t ≡ Some ms → columns_of t ≡ checked ms
  unfolding columns_of
  columns-checked ms e = rw (columns_of, e)

  -- some column is malformed
  pub columns-malformed : (o : Option (List Member × Text)) → object_of in_bounds t ≡ alone o → (o >>= (λ p. columns_in p.0)) ≡ None → columns_of t ≡ None
  unfolding alone
  columns-malformed None e f = columns-none e
  columns-malformed (Some p) e f = go (is_empty (ws p.1)) refl
    where
      refused : (b : Bool) → (guard b >>= (λ _. columns_in p.0)) ≡ None
      refused true = f
      refused false = refl

      go : (b : Bool) → is_empty (ws p.1) ≡ b → columns_of t ≡ None
      go true g = columns-checked p.0 (e ∙ rw (alone, g)) ∙ refused (distinct (firsts p.0))
      go false g = columns-none (e ∙ rw (alone, g))

  module _ (at end : ℕ) (h : at ≤ length t) (w : Tabled (contents (value in_bounds) (drop at t)) t end) (o : object_of in_bounds t ≡ Some w.ms) where
    pub columns-twice : distinct (firsts w.ms) ≡ false → columns_of t ≡ None
    columns-twice d = columns-checked w.ms o ∙ ap (λ (b : Bool). guard b >>= (λ _. columns_in w.ms)) d

    pub columns-stand : distinct (firsts w.ms) ≡ true → Standing (columns_of t) t at
    columns-stand d = record {
      columns = w.columns;
      says = columns-checked w.ms o ∙ ap (λ (b : Bool). guard b >>= (λ _. columns_in w.ms)) d ∙ w.each;
      stand = record { ms = w.ms; left = drop end t; all = w.all; each = w.each; within = h };
    }
