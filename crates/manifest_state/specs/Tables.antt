-- The columns of a manifest with their bounds, as they stand in a text.
use Rattle.std.specs.Prelude.{◌≡◌, List, ℕ, ◌≤◌, length, drop}
use Rattle.std.specs.Prelude.{Option, None, Some}
use Rattle.rules.specs.Bytes.{Bytes, ◌>>=◌}
use Rattle.rules.specs.Manifests.{Bounds, in_bounds, columns_in}
use Rattle.rules.specs.Json.Text.{Text}
use Rattle.rules.specs.Json.Values.{Member, contents, value}

abbrev pub Table : Type 0
Table = List (Bytes × Bounds)

-- o is what the rules say of the object behind whose brace a position is: each of its members is a column with bounds, and it ends before `end`
pub record Tabled (o : Option (List Member × Text)) (t : Text) (end : ℕ) : Type 0 where
  pub ms : List Member
  pub columns : Table
  pub all : o ≡ Some (ms, drop end t)
  pub each : columns_in ms ≡ Some columns
  pub within : end ≤ length t

abbrev pub TabledIs : Option (List Member × Text) → Text → Option ℕ → Type 0
TabledIs o t (Some end) = Tabled o t end
TabledIs o t None = (o >>= (λ p. columns_in p.0)) ≡ None

-- behind the brace before `at` the columns stand
pub record Columns (t : Text) (at : ℕ) (columns : Table) : Type 0 where
  pub ms : List Member
  pub left : Text
  pub all : contents (value in_bounds) (drop at t) ≡ Some (ms, left)
  pub each : columns_in ms ≡ Some columns
  pub within : at ≤ length t

abbrev pub HasColumns : Text → (at : ℕ) → Type 0
HasColumns t at = (columns : Table) × Columns t at columns

pub record Standing (o : Option Table) (t : Text) (at : ℕ) : Type 0 where
  pub columns : Table
  pub says : o ≡ Some columns
  pub stand : Columns t at columns

abbrev pub ColumnsIs : Option Table → Text → Option ℕ → Type 0
ColumnsIs o t (Some at) = Standing o t at
ColumnsIs o t None = o ≡ None
