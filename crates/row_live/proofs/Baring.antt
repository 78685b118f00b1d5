-- The last pass over a live table: what holds before each turn.
use Prim.Native.Nat.{ℕ, ◌+◌, ◌*◌, ◌%◌, ◌≤◌, ◌<◌}
use mathlib.Core.Path.{◌≡◌, refl, ap, ◌∙◌}
use native.Mathlib.Nat.{add-zero}
use native.Mathlib.Omega.{arith}
use mathlib.Core.List.{List, [], ◌∷◌, map}
use lib.ListN.{length, drop, get_or, set, length-set, length-drop}
use lib.Seq.{take-set-le, drop-set-lt, drop-set-add, get_or-drop}
use Rattle.facts.specs.Rows.{rows_of}
use Rattle.facts.proofs.Lists.{drop-later}
use Rattle.facts.proofs.Tables.{rows_of-pass}
use Rattle.row_table.specs.Table.{wide, row, rows, layout, Room, Changed}
use Rattle.row_live.specs.Live.{places, bared}

-- of the n rows of t₀, those before k are bared in t
pub record Baring (n : ℕ) (t₀ t : List ℕ) (k : ℕ) : Type 0 where
  pub high : k ≤ n
  pub changed : Changed k (map bared (rows k t₀)) k t₀ t

pub baring-start : (n : ℕ) (t : List ℕ) → Baring n t t 0
unfolding rows_of
baring-start n t = record { high = omega arith; changed = record { rows = refl; rest = refl; length = refl } }

-- another number at the front of a row is another head
row-head : (t : List ℕ) (v : ℕ) → 0 < length t
    → row (set t 0 v) ≡ record { head = v; len = (row t).len; size = (row t).size; time = (row t).time; skips = (row t).skips; retry = (row t).retry }
unfolding row
row-head [] v h = absurd (omega arith)
row-head (a ∷ t) v h = refl

-- the head of row k alone is written
row-bared : (k : ℕ) (t : List ℕ) → k * wide < length t
    → row (drop (k * wide) (set t (k * wide) (get_or t (k * wide) 0 % places))) ≡ bared (row (drop (k * wide) t))
unfolding row
row-bared k t h =
    let from : List ℕ = drop (k * wide) t in
    let v : ℕ = get_or t (k * wide) 0 % places in
    let e : drop (k * wide) (set t (k * wide) v) ≡ set from 0 v = rw add-zero at (drop-set-add (k * wide) t 0 v) in
    let f : get_or from 0 0 ≡ get_or t (k * wide) 0 = rw add-zero at (get_or-drop (k * wide) t 0 0) in
    ap row e ∙ row-head from v (rw length-drop (omega arith)) ∙ rw f

pub baring-turn : {n k : ℕ} {t₀ t : List ℕ} → Room n t₀ → Baring n t₀ t k → k < n → Baring n t₀ (set t (k * wide) (get_or t (k * wide) 0 % places)) (k + 1)
baring-turn {n} {k} {t₀} {t} room g h =
    let v : ℕ = get_or t (k * wide) 0 % places in
    let l : length t ≡ length t₀ = g.changed.length in
    let u : List ℕ = set t (k * wide) v in
    record {
      high = omega arith;
      changed = record {
        rows = rows_of-pass layout bared k t₀ t u
            (omega arith)
            g.changed.rows
            g.changed.rest
            (take-set-le (k * wide) t (k * wide) v (omega arith))
            (row-bared k t (omega arith));
        rest = drop-set-lt ((k + 1) * wide) t (k * wide) v (omega arith) ∙ drop-later (k * wide) ((k + 1) * wide) t t₀ (omega arith) g.changed.rest;
        length = length-set t (k * wide) v ∙ l;
      };
    }
