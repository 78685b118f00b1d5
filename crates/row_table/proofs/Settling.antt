-- The loop that moves rows to the front: what holds before each turn, and what it ends with.
use Prim.Native.Nat.{ℕ, ◌+◌, ◌≤◌, ◌<◌}
use mathlib.Core.Path.{◌≡◌, sym, ap, ◌∙◌}
use native.Mathlib.Nat.{zero-add}
use native.Mathlib.Omega.{arith}
use mathlib.Core.List.{List, []}
use lib.ListN.{length, take, drop, get_or, set, length-drop}
use lib.Seq.{take_at}
use Rattle.facts.specs.Moves.{put_at, moved_down}
use Rattle.facts.proofs.Parts.{part-behind}
use Rattle.facts.proofs.Moves.{moved_down-start, moved_down-step}
use Rattle.facts.proofs.Rows.{length-rows_of}
use Rattle.row_table.specs.declared.Cells.{Cells}
use Rattle.row_table.specs.Table.{wide, row, rows, row_at, behind, Changed}
use Rattle.row_table.proofs.Changes.{changed-none, changed-as, changed-set, changed-front}
use Rattle.row_table.proofs.Standing.{window}

-- of the n rows of t₀ behind `base` others, the first k stand in front
pub record Settling (base n : ℕ) (t₀ t : List ℕ) (k : ℕ) : Type 0 where
  pub few : k ≤ n
  pub changed : Changed (base + n) (moved_down 0 k base (rows (base + n) t₀)) (base + n) t₀ t

module _ {A : Type 0} (base n : ℕ) (l : List A) (h : length l ≡ base + n) where
  settle_step : (k : ℕ) (d : A) → k < n → set (moved_down 0 k base l) k (get_or (moved_down 0 k base l) (base + k) d) ≡ moved_down 0 (k + 1) base l
  settle_step k d p = simp zero-add at (moved_down-step 0 n base l (omega arith) k d p)

  settle-end : take n (moved_down 0 n base l) ≡ drop base l
  unfolding moved_down put_at
  settle-end =
      let m : length (drop base l) ≡ n = length-drop base l ∙ omega arith in
      rw (zero-add base, part-behind l base (base + n) (omega arith)) (take_at (drop base l) (drop (0 + length (drop base l)) l) n m)

module _ {base n : ℕ} where
  pub settling-start : (t₀ : List ℕ) → Settling base n t₀ t₀ 0
  settling-start t₀ = record {
    few = omega arith;
    changed =
        changed-as (sym (moved_down-start 0 0 base (rows (base + n) t₀) (omega (arith, length-rows_of wide row (base + n) t₀)))) (changed-none (base + n) t₀);
  }

  -- row base + k is written over row k
  pub settling-turn : {t₀ t t' : List ℕ} {k : ℕ} → Settling base n t₀ t k → k < n
      → Changed (base + n) (set (rows (base + n) t) k (row_at (rows (base + n) t) (base + k))) (base + n) t t' → Settling base n t₀ t' (k + 1)
  settling-turn {t₀} {t} {t'} {k} g h f =
      let l : List Cells = rows (base + n) t₀ in
      let u : List Cells = moved_down 0 k base l in
      let c : Cells = row_at (rows (base + n) t) (base + k) in
      let v : c ≡ row_at u (base + k) = ap (λ (rs : List Cells). row_at rs (base + k)) g.changed.rows in
      let s : set u k c ≡ moved_down 0 (k + 1) base l = ap (set u k) v ∙ settle_step base n l (length-rows_of wide row (base + n) t₀) k (row []) h in
      record { few = omega arith; changed = changed-as s (changed-set k c g.changed f) }

  pub settling-end : {t₀ t : List ℕ} {k : ℕ} → Settling base n t₀ t k → n ≤ k → Changed n (rows n (behind base t₀)) (base + n) t₀ t
  settling-end {t₀} {t} {k} g h =
      let l : List Cells = rows (base + n) t₀ in
      let p : k ≡ n = omega (arith, g.few) in
      let s : take n (moved_down 0 n base l) ≡ rows n (behind base t₀) = settle-end base n l (length-rows_of wide row (base + n) t₀) ∙ sym (window base n t₀) in
      changed-as (ap (λ (i : ℕ). take n (moved_down 0 i base l)) p ∙ s) (changed-front n (omega arith) g.changed)
