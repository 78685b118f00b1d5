-- A table whose rows are all told, and what lies behind them, is one table; a row that is read is one row.
use Prim.Native.Nat.{ℕ, ◌+◌, ◌<◌}
use mathlib.Core.Path.{◌≡◌, sym, ap, ◌∙◌}
use native.Mathlib.Omega.{arith}
use mathlib.Core.List.{List, ◌++◌}
use Rattle.facts.specs.Rows.{flat}
use Rattle.facts.proofs.Rows.{rows_split}
use Rattle.row_table.specs.declared.Cells.{Cells}
use Rattle.row_table.specs.Table.{cells, layout, rows, row_at, Room, behind, Changed, Stored}

pub changed-alone : (n : ℕ) (rs : List Cells) (t u v : List ℕ) → Room n t → Changed n rs n t u → Changed n rs n t v → u ≡ v
changed-alone n rs t u v h p q =
    rows_split layout n u (omega (arith, p.length))
    ∙ ap (λ (xs : List Cells). flat cells xs ++ behind n u) (p.rows ∙ sym q.rows)
    ∙ ap (λ (rest : List ℕ). flat cells (rows n v) ++ rest) (p.rest ∙ sym q.rest)
    ∙ sym (rows_split layout n v (omega (arith, q.length)))

pub stored-alone : (k : ℕ) (c : Cells) (t u v : List ℕ) → Room (k + 1) t → Stored k c t u → Stored k c t v → u ≡ v
stored-alone k c t u v h p q =
    let l : k < k + 1 = omega arith in
    changed-alone (k + 1) _ t u v h (p (k + 1) l h) (q (k + 1) l h)

pub row-alone : (k : ℕ) (t : List ℕ) (r q : Cells) → ((n : ℕ) → k < n → r ≡ row_at (rows n t) k) → ((n : ℕ) → k < n → q ≡ row_at (rows n t) k) → r ≡ q
row-alone k t r q f g =
    let l : k < k + 1 = omega arith in
    f (k + 1) l ∙ sym (g (k + 1) l)
