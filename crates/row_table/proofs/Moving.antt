-- The loops that move the rows of a table one place, a row a turn: what holds before each turn, and what they end with.
use Prim.Native.Nat.{ℕ, ◌+◌, ◌-◌, ◌≤◌, ◌<◌}
use mathlib.Core.Path.{◌≡◌, sym, ap, ◌∙◌}
use native.Mathlib.Omega.{arith}
use mathlib.Core.List.{List, []}
use lib.ListN.{take, set}
use Rattle.facts.specs.Rows.{insert_at, remove_at}
use Rattle.facts.specs.Moves.{moved_up, moved_down}
use Rattle.facts.proofs.Rows.{length-rows_of, take-rows_of}
use Rattle.row_table.specs.declared.Cells.{Cells}
use Rattle.row_table.specs.Table.{wide, row, rows, row_at, Changed}
use Rattle.facts.proofs.Shifts.{open-start, open_step, open-end, close-start, close-step, close-end}
use Rattle.row_table.proofs.Changes.{changed-none, changed-as, changed-set, changed-front}

-- ---- a row is to go in at k: of the n rows of t₀, those from j on have moved up

pub record Opening (n k : ℕ) (t₀ t : List ℕ) (j : ℕ) : Type 0 where
  pub low : k ≤ j
  pub high : j ≤ n
  pub changed : Changed (n + 1) (moved_up j (n - j) 1 (rows (n + 1) t₀)) (n + 1) t₀ t

module _ {n k : ℕ} where
  pub opening-start : (t₀ : List ℕ) → k ≤ n → Opening n k t₀ t₀ n
  opening-start t₀ h = record {
    low = h;
    high = omega arith;
    changed = changed-as (sym (open-start n (rows (n + 1) t₀) (length-rows_of wide row (n + 1) t₀))) (changed-none (n + 1) t₀);
  }

  -- row i is written over row j, the one behind it
  pub opening-turn : {t₀ t t' : List ℕ} {i j m : ℕ} → Opening n k t₀ t m → k ≤ i → i + 1 ≡ m → j ≡ m
      → Changed (n + 1) (set (rows (n + 1) t) j (row_at (rows (n + 1) t) i)) (n + 1) t t' → Opening n k t₀ t' i
  opening-turn {t₀} {t} {t'} {i} {j} {m} g h e q f =
      let l : List Cells = rows (n + 1) t₀ in
      let u : List Cells = moved_up m (n - m) 1 l in
      let c : Cells = row_at (rows (n + 1) t) i in
      let v : c ≡ row_at u i = ap (λ (rs : List Cells). row_at rs i) g.changed.rows in
      let w : m - 1 ≡ i = omega arith in
      let s : set u m (row_at u (m - 1)) ≡ moved_up (m - 1) (n - (m - 1)) 1 l =
      open_step n l (length-rows_of wide row (n + 1) t₀) m (row []) (omega arith) g.high in
      let r : set u j c ≡ moved_up i (n - i) 1 l = rw (q, v) (rw w at s) in
      record { low = h; high = omega (arith, g.high); changed = changed-as r (changed-set j c g.changed f) }

  -- the new row is written over row k
  pub opening-end : {t₀ t t' : List ℕ} {j : ℕ} (c : Cells) → Opening n k t₀ t j → j ≤ k
      → Changed (n + 1) (set (rows (n + 1) t) k c) (n + 1) t t' → Changed (n + 1) (insert_at k c (rows n t₀)) (n + 1) t₀ t'
  opening-end {t₀} {t} {t'} {j} c g h f =
      let l : List Cells = rows (n + 1) t₀ in
      let p : j ≡ k = omega arith in
      let q : k ≤ n = omega arith in
      let s : set (moved_up k (n - k) 1 l) k c ≡ insert_at k c (rows n t₀) =
      open-end n l (length-rows_of wide row (n + 1) t₀) k c q ∙ ap (insert_at k c) (take-rows_of wide row n (n + 1) t₀ (omega arith)) in
      changed-as (ap (λ (i : ℕ). set (moved_up i (n - i) 1 l) k c) p ∙ s) (changed-set k c g.changed f)

-- ---- row k is to go: of the n rows of t₀, those behind it have moved down as far as place j

pub record Closing (n k : ℕ) (t₀ t : List ℕ) (j : ℕ) : Type 0 where
  pub low : k ≤ j
  pub high : j ≤ n - 1
  pub changed : Changed n (moved_down k (j - k) 1 (rows n t₀)) n t₀ t

module _ {n k : ℕ} where
  pub closing-start : (t₀ : List ℕ) → k < n → Closing n k t₀ t₀ k
  closing-start t₀ h = record {
    low = omega arith;
    high = omega arith;
    changed = changed-as (sym (close-start n k (rows n t₀) (length-rows_of wide row n t₀) h)) (changed-none n t₀);
  }

  -- row i is written over row j, the one before it
  pub closing-turn : {t₀ t t' : List ℕ} {i j m : ℕ} → Closing n k t₀ t j → j < n - 1 → i ≡ j + 1 → m ≡ j + 1
      → Changed n (set (rows n t) j (row_at (rows n t) i)) n t t' → Closing n k t₀ t' m
  closing-turn {t₀} {t} {t'} {i} {j} {m} g h e q f =
      let l : List Cells = rows n t₀ in
      let u : List Cells = moved_down k (j - k) 1 l in
      let c : Cells = row_at (rows n t) i in
      let v : c ≡ row_at u (j + 1) = ap (λ (rs : List Cells). row_at rs i) g.changed.rows ∙ ap (row_at u) e in
      let s : set u j c ≡ moved_down k (m - k) 1 l =
      ap (set u j) v ∙ rw q (close-step n k l (length-rows_of wide row n t₀) (omega arith) j (row []) g.low h) in
      record { low = omega (arith, g.low); high = omega arith; changed = changed-as s (changed-set j c g.changed f) }

  pub closing_end : {t₀ t : List ℕ} {j : ℕ} → k < n → Closing n k t₀ t j → n - 1 ≤ j → Changed (n - 1) (remove_at k (rows n t₀)) n t₀ t
  closing_end {t₀} {t} {j} q g h =
      let l : List Cells = rows n t₀ in
      let p : j ≡ n - 1 = omega arith in
      let s : take (n - 1) (moved_down k (n - 1 - k) 1 l) ≡ remove_at k l = close-end n k l (length-rows_of wide row n t₀) q in
      changed-as (ap (λ (i : ℕ). take (n - 1) (moved_down k (i - k) 1 l)) p ∙ s) (changed-front (n - 1) (omega arith) g.changed)
