-- The live files as rows of a lent slice, in the order of the bytes that their paths stand for. While a log is read, a
-- row's head carries two positions in the bundle: where the line stands, and where the path in it is spelled.
use Rattle.std.specs.Prelude.{ℕ, ◌+◌, ◌/◌, ◌%◌, ◌≤◌, ◌<◌, ◌≡◌, List, [], length, drop}
use Rattle.facts.specs.Lists.{All}
use Rattle.rules.specs.Bytes.{Bytes}
use Rattle.rules.specs.Json.Text.{Text}
use Rattle.rules.specs.Keyed.{Ascends, Bracket}
use Rattle.json_strings.specs.Decoded.{decoded, WellSpelled}
use Rattle.row_table.specs.Table.{row, rows, row_at, Room, behind}
use Rattle.row_table.specs.declared.Cells.{Cells}
use Rattle.row_live.specs.declared.Standing.{Standing}
use Rattle.std.specs.Prelude.{Result, Ok, Err}

-- ---- a row while a log is read

-- positions in a bundle are below this
abbrev pub places : ℕ
places = 2_097_152

-- where the line stands
abbrev pub place_of : Cells → ℕ
place_of c = c.head % places

-- where the path is spelled: the position behind its opening quote
abbrev pub path_at : Cells → ℕ
path_at c = c.head / places

-- the bytes that the path stands for
abbrev pub key : Text → Cells → Bytes
key src c = decoded (drop (path_at c) src)

-- the head is both positions
pub record Packed (line spelling head : ℕ) : Type 0 where
  pub place : head % places ≡ line
  pub path : head / places ≡ spelling

-- ---- the table

-- the first n rows of t: their paths are spelled in src, and strictly ascend
pub record Table (src : Text) (n : ℕ) (t : List ℕ) : Type 0 where
  pub room : Room n t
  pub spelled : All (λ (c : Cells). WellSpelled src (path_at c)) (rows n t)
  pub ascends : Ascends (key src) (rows n t)

-- the key k is that of a row; or of none, and this is where it would stand: those before are below it, the others above
abbrev pub Finds : Text → (k : Bytes) → ℕ → List ℕ → Result ℕ ℕ → Type 0
Finds src k n t (Ok i) = (i < n) × (key src (row_at (rows n t) i) ≡ k)
Finds src k n t (Err i) = Bracket (key src) k (rows n t) (row []) i i

-- t became t': its rows are rs, and stand within a room of `limit` rows, behind which nothing changed
pub record Became (src : Text) (rs : List Cells) (limit : ℕ) (t : List ℕ) (r : Standing) (t' : List ℕ) : Type 0 where
  pub count : r.live ≡ length rs
  pub holds : rows r.live (behind r.base t') ≡ rs
  pub within : r.base + r.live ≤ limit
  pub rest : behind limit t' ≡ behind limit t
  pub length : length t' ≡ length t
  pub table : Table src r.live (behind r.base t')

-- the row with these two numbers of a mergeskip
abbrev pub marked : (skips retry : ℕ) → Cells → Cells
marked skips retry c = record { head = c.head; len = c.len; size = c.size; time = c.time; skips = skips; retry = retry }

-- ---- the last pass

-- the row as the paper has it: the head is the line's position alone
abbrev pub bared : Cells → Cells
bared c = record { head = place_of c; len = c.len; size = c.size; time = c.time; skips = c.skips; retry = c.retry }
