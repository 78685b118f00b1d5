-- Two layouts, of rows four and six numbers wide, and the same laws at both: no proof depends on the width.
use mathlib.Core.Path.{◌≡◌, refl, sym}
use Prim.Native.Nat.{ℕ, ◌+◌, ◌-◌, ◌*◌, ◌≤◌}
use mathlib.Core.List.{List, [], ◌∷◌}
use lib.ListN.{length, get_or, set}
use Rattle.facts.specs.Rows.{rows_of, Layout, reads, insert_at}
use Rattle.facts.specs.Moves.{put_at, stores, moved_up}
use Rattle.facts.proofs.Rows.{take-reads}
use Rattle.facts.proofs.Moves.{put_at-stores}
use Rattle.facts.proofs.Tables.{rows_of-insert}

-- ---- four numbers

abbrev pub Four : Type 0
Four = ℕ × ℕ × ℕ × ℕ

abbrev pub four_cells : Four → List ℕ
four_cells r = r.0 ∷ r.1 ∷ r.2 ∷ r.3 ∷ []

abbrev pub four_row : List ℕ → Four
four_row t = (get_or t 0 0, get_or t 1 0, get_or t 2 0, get_or t 3 0)

pub four : Layout 4 four_cells four_row
unfolding reads
four = record { wide = λ r. refl; back = λ r t. refl; forth = λ t h. sym (take-reads 4 t h) }

pub four-insert : (n k : ℕ) (r : Four) (t : List ℕ) → k ≤ n → n * 4 + 4 ≤ length t
    → rows_of 4 four_row (n + 1) (put_at (k * 4) (four_cells r) (moved_up (k * 4) ((n - k) * 4) 4 t)) ≡ insert_at k r (rows_of 4 four_row n t)
four-insert = rows_of-insert four

pub four-stores : (at a b c d : ℕ) (t : List ℕ) → at + 4 ≤ length t
    → set (set (set (set t at a) (at + 1) b) (at + 2) c) (at + 3) d ≡ put_at at (four_cells (a, b, c, d)) t
unfolding stores
four-stores at a b c d t h = put_at-stores at a (b ∷ c ∷ d ∷ []) t h

-- ---- six numbers

abbrev pub Six : Type 0
Six = ℕ × ℕ × ℕ × ℕ × ℕ × ℕ

abbrev pub six_cells : Six → List ℕ
six_cells r = r.0 ∷ r.1 ∷ r.2 ∷ r.3 ∷ r.4 ∷ r.5 ∷ []

abbrev pub six_row : List ℕ → Six
six_row t = (get_or t 0 0, get_or t 1 0, get_or t 2 0, get_or t 3 0, get_or t 4 0, get_or t 5 0)

pub six : Layout 6 six_cells six_row
unfolding reads
six = record { wide = λ r. refl; back = λ r t. refl; forth = λ t h. sym (take-reads 6 t h) }

pub six-insert : (n k : ℕ) (r : Six) (t : List ℕ) → k ≤ n → n * 6 + 6 ≤ length t
    → rows_of 6 six_row (n + 1) (put_at (k * 6) (six_cells r) (moved_up (k * 6) ((n - k) * 6) 6 t)) ≡ insert_at k r (rows_of 6 six_row n t)
six-insert = rows_of-insert six

pub six-stores : (at a b c d e f : ℕ) (t : List ℕ) → at + 6 ≤ length t
    → set (set (set (set (set (set t at a) (at + 1) b) (at + 2) c) (at + 3) d) (at + 4) e) (at + 5) f ≡ put_at at (six_cells (a, b, c, d, e, f)) t
unfolding stores
six-stores at a b c d e f t h = put_at-stores at a (b ∷ c ∷ d ∷ e ∷ f ∷ []) t h
