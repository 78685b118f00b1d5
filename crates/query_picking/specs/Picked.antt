-- The rows that are picked, or due, moved to the front of a table.
use Rattle.std.specs.Prelude.{◌≡◌, Bool, true, false, List, map, ℕ, ◌≤◌, length}
use Rattle.facts.specs.Kept.{kept}
use Rattle.rules.specs.Json.Text.{Text}
use Rattle.rules.specs.Query.{Condition}
use Rattle.rules.specs.Picking.{meets_all, in_range_all}
use Rattle.rules.specs.Due.{is_due}
use Rattle.row_table.specs.Table.{rows, behind}
use Rattle.row_table.specs.declared.Cells.{Cells}
use Rattle.log_replay.specs.Views.{facts_at, row_of}
use Rattle.std.specs.Prelude.{Result, Ok, Err}
use Rattle.query_comparisons.specs.declared.OutOfRange.{OutOfRange}

-- the n rows of t became the m rows of t': those that pass the test, in their order
pub record Fronted (test : Cells → Bool) (n : ℕ) (t : List ℕ) (m : ℕ) (t' : List ℕ) : Type 0 where
  pub few : m ≤ n
  pub holds : rows m t' ≡ kept test (rows n t)
  pub rest : behind n t' ≡ behind n t
  pub length : length t' ≡ length t

-- those whose files meet every condition
abbrev pub Picks : (src : Text) (cs : List Condition) (n : ℕ) (t : List ℕ) (m : ℕ) (t' : List ℕ) → Type 0
Picks src cs n t m t' = Fronted (λ (c : Cells). meets_all cs (facts_at src c)) n t m t'

-- none of the n rows has a value out of range, and the picked ones are at the front; or one has
abbrev pub PickedBy : (src : Text) (cs : List Condition) (n : ℕ) (t t' : List ℕ) → Result ℕ OutOfRange → Type 0
PickedBy src cs n t t' (Ok m) = (in_range_all cs (map (row_of src) (rows n t)) ≡ true) × Picks src cs n t m t'
PickedBy src cs n t t' (Err x) = (in_range_all cs (map (row_of src) (rows n t)) ≡ false) × (behind n t' ≡ behind n t) × (length t' ≡ length t)

-- the file of a row is due
abbrev pub due_row : (time : ℕ) → Cells → Bool
due_row time c = is_due time (record { count = c.skips; retry_after = c.retry })

abbrev pub Dues : (time n : ℕ) (t : List ℕ) (m : ℕ) (t' : List ℕ) → Type 0
Dues time n t m t' = Fronted (due_row time) n t m t'
