-- The keys of an add beside the partition columns in force, where adds are held to them.
use mathlib.Core.Path.{◌≡◌, refl, ap}
use mathlib.Core.Bool.{Bool, true, false}
use Rattle.std.specs.Prelude.{Option}
use mathlib.Core.List.{[], ◌∷◌}
use Prim.Native.Nat.{ℕ}
use Rattle.rules.specs.Bytes.{same_set, firsts, first}
use Rattle.rules.specs.Json.Text.{Text, is_ws, ws}
use Rattle.rules.specs.Json.Values.{opened_by, opening, items_behind, list, elements}
use Rattle.rules.specs.Json.Fields.{strings}
use Rattle.rules.specs.Actions.{Facts, MetaData, add}
use Rattle.rules.specs.History.{no_table, fits}
use Rattle.field_containers.specs.Strung.{Listed}
use Rattle.log_replay.specs.declared.Span.{Span}
use Rattle.log_replay.specs.Views.{table_at, or_no_table, TableSaid}
use Rattle.log_replay.specs.Answers.{origin}
use Rattle.log_replay.proofs.Nothing.{table-nowhere}

module _ {held : Bool} (f : Facts) (m : MetaData) where
  pub fits-held : held ≡ true → fits (origin held) (add f) m ≡ same_set (firsts f.partition_values) m.partition_columns
  unfolding fits
  fits-held e = ap (λ (b : Bool). fits (origin b) (add f) m) e

  pub fits-free : held ≡ false → fits (origin held) (add f) m ≡ true
  unfolding fits
  fits-free e = ap (λ (b : Bool). fits (origin b) (add f) m) e

module _ (src : Text) (at : Span) where
  pub no-columns : at.size ≡ 0 → (or_no_table (table_at src at)).partition_columns ≡ []
  unfolding or_no_table no_table
  no-columns e = ap (λ (o : Option MetaData). (or_no_table o).partition_columns) (table-nowhere src at e)

  pub said-columns : {columns : ℕ} (r : TableSaid src at columns) → (or_no_table (table_at src at)).partition_columns ≡ r.table.partition_columns
  unfolding or_no_table
  said-columns r = ap (λ (o : Option MetaData). (or_no_table o).partition_columns) r.says

-- an array with no strings
pub no-strings : Listed (0x5D ∷ []) 0 []
unfolding elements list opening opened_by items_behind ws is_ws first strings
no-strings = record { depth = 0; vs = []; left = []; all = refl; each = refl }
