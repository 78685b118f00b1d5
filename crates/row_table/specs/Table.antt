-- A table of rows in a list of numbers: how a row lies in them, the rows of a table, and what a function that changes
-- rows leaves. How wide a row is stands here alone: in `wide` and in the layout.
use Rattle.std.specs.Prelude.{ℕ, ◌+◌, ◌*◌, ◌≤◌, ◌<◌, ◌≡◌, refl, List, [], ◌∷◌, length, get_or, set, take, drop}
use Rattle.std.proofs.Common.{arith}
use Rattle.facts.specs.Rows.{rows_of, Layout}
use Rattle.row_table.specs.declared.Cells.{Cells}

-- how many numbers a row has
abbrev pub wide : ℕ
wide = 6

-- the numbers of a row, in their order
unfoldable pub cells : Cells → List ℕ
cells c = c.head ∷ c.len ∷ c.size ∷ c.time ∷ c.skips ∷ c.retry ∷ []

-- the row that the numbers t begin with
unfoldable pub row : List ℕ → Cells
row t = record { head = get_or t 0 0; len = get_or t 1 0; size = get_or t 2 0; time = get_or t 3 0; skips = get_or t 4 0; retry = get_or t 5 0 }

pub layout : Layout wide cells row
unfolding cells row
layout = record { wide = λ c. refl; back = λ c t. refl; forth = whole }
  where
    whole : (t : List ℕ) → wide ≤ length t → cells (row t) ≡ take wide t
    whole [] h = absurd (omega arith)
    whole (a ∷ []) h = absurd (omega arith)
    whole (a ∷ b ∷ []) h = absurd (omega arith)
    whole (a ∷ b ∷ c ∷ []) h = absurd (omega arith)
    whole (a ∷ b ∷ c ∷ d ∷ []) h = absurd (omega arith)
    whole (a ∷ b ∷ c ∷ d ∷ e ∷ []) h = absurd (omega arith)
    whole (a ∷ b ∷ c ∷ d ∷ e ∷ f ∷ t) h = refl

-- the first n rows of t
abbrev pub rows : ℕ → List ℕ → List Cells
rows n t = rows_of wide row n t

-- row k of rs
abbrev pub row_at : List Cells → ℕ → Cells
row_at rs k = get_or rs k (row [])

-- t has room for n rows
abbrev pub Room : ℕ → List ℕ → Type 0
Room n t = n * wide ≤ length t

-- what lies behind the first n rows of t
abbrev pub behind : ℕ → List ℕ → List ℕ
behind n t = drop (n * wide) t

-- t became t': its first m rows are rs, and behind the first n rows nothing changed
pub record Changed (m : ℕ) (rs : List Cells) (n : ℕ) (t t' : List ℕ) : Type 0 where
  pub rows : rows m t' ≡ rs
  pub rest : behind n t' ≡ behind n t
  pub length : length t' ≡ length t

-- t became t': its m rows behind `base` others are rs, within a room of `limit` rows, behind which nothing changed
pub record Stood (base m : ℕ) (rs : List Cells) (limit : ℕ) (t t' : List ℕ) : Type 0 where
  pub rows : rows m (behind base t') ≡ rs
  pub within : base + m ≤ limit
  pub rest : behind limit t' ≡ behind limit t
  pub length : length t' ≡ length t

-- t became t': row k is c, and nothing else changed, however many rows are looked at
abbrev pub Stored : ℕ → Cells → List ℕ → List ℕ → Type 0
Stored k c t t' = (n : ℕ) → k < n → Room n t → Changed n (set (rows n t) k c) n t t'

-- t became t': row k is as row i was, and nothing else changed
abbrev pub Copied : (i k : ℕ) → List ℕ → List ℕ → Type 0
Copied i k t t' = (n : ℕ) → i < n → k < n → Room n t → Changed n (set (rows n t) k (row_at (rows n t) i)) n t t'
