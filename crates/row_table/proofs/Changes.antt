-- Laws of a table that changed: nothing yet, a row written, a row written after other changes.
use Prim.Native.Nat.{ℕ, ◌+◌, ◌*◌, ◌≤◌, ◌<◌}
use mathlib.Core.Path.{◌≡◌, refl, sym, ap, ◌∙◌}
use native.Mathlib.Omega.{arith}
use mathlib.Core.List.{List}
use lib.ListN.{length, take, set}
use Rattle.facts.specs.Moves.{put_at}
use Rattle.facts.proofs.Moves.{drop-put_at, length-put_at}
use Rattle.facts.proofs.Rows.{take-rows_of}
use Rattle.facts.proofs.Tables.{rows_of-set}
use Rattle.row_table.specs.declared.Cells.{Cells}
use Rattle.row_table.specs.Table.{wide, cells, row, layout, rows, Room, Changed}

pub changed-none : (n : ℕ) (t : List ℕ) → Changed n (rows n t) n t t
changed-none n t = record { rows = refl; rest = refl; length = refl }

-- the same rows, said otherwise
pub changed-as : {m n : ℕ} {rs ss : List Cells} {t u : List ℕ} → rs ≡ ss → Changed m rs n t u → Changed m ss n t u
changed-as e p = record { rows = p.rows ∙ e; rest = p.rest; length = p.length }

-- fewer of the rows
pub changed-front : {m n : ℕ} (j : ℕ) {rs : List Cells} {t u : List ℕ} → j ≤ m → Changed m rs n t u → Changed j (take j rs) n t u
changed-front {m} j {rs} {t} {u} h p = record {
  rows = sym (take-rows_of wide row j m u h) ∙ ap (take j) p.rows;
  rest = p.rest;
  length = p.length;
}

-- the numbers of c written where row k lies
pub changed_row : (n k : ℕ) (c : Cells) (t : List ℕ) → k < n → Room n t → Changed n (set (rows n t) k c) n t (put_at (k * wide) (cells c) t)
changed_row n k c t h l =
    let e : length (cells c) ≡ wide = layout.wide c in
    let f : k * wide + length (cells c) ≤ length t = omega arith in
    record {
      rows = rows_of-set layout n k c t h l;
      rest = drop-put_at (k * wide) (cells c) t f (n * wide) (omega arith);
      length = length-put_at (k * wide) (cells c) t f;
    }

-- a row written after other changes
pub changed-set : (k : ℕ) (c : Cells) {n : ℕ} {rs : List Cells} {t u v : List ℕ} → Changed n rs n t u → Changed n (set (rows n u) k c) n u v
    → Changed n (set rs k c) n t v
changed-set k c p q = record {
  rows = q.rows ∙ ap (λ (l : List Cells). set l k c) p.rows;
  rest = q.rest ∙ p.rest;
  length = q.length ∙ p.length;
}
