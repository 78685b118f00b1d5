-- The metadata of two lines, of which one or both say none: a line that says none has no id.
use mathlib.Core.Path.{◌≡◌, sym, ap}
use mathlib.Core.Bool.{false}
use Rattle.std.specs.Prelude.{Option, None, Some}
use mathlib.Core.List.{[]}
use Rattle.rules.specs.Bytes.{Bytes, same, same_each}
use Rattle.rules.specs.Json.Text.{Text}
use Rattle.rules.specs.Actions.{MetaData, Action, meta_data, action}
use Rattle.rules.specs.History.{no_table}
use Rattle.rules.specs.Agreement.{agree_tables}
use Rattle.rules.proofs.Tests.{by, and-fails-left}
use Rattle.rules.proofs.Order.{same_true}
use Rattle.rules.proofs.Tabled.{action-id}
use Rattle.line_actions.specs.Asked.{meta_data_in}
use Rattle.log_replay.specs.Views.{line_at, table_at, or_no_table}
use Rattle.log_replay.specs.declared.Span.{Span}

-- ---- a line that says it, or none

module _ (src : Text) (at : Span) where
  pub table_is : {m : MetaData} → action (line_at src at) ≡ Some (meta_data m) → or_no_table (table_at src at) ≡ m
  unfolding table_at meta_data_in or_no_table
  table_is e = ap (λ (o : Option Action). or_no_table (meta_data_in o)) e

  pub table_none : meta_data_in (action (line_at src at)) ≡ None → or_no_table (table_at src at) ≡ no_table
  unfolding table_at or_no_table
  table_none e = ap or_no_table e

not_same : (x y : Bytes) → (x ≡ y → ⊥) → same x y ≡ false
not_same x y n = by (same x y) (λ p. absurd (n (same_true x y p))) (λ p. p)

-- where one alone says it
module _ (l : Bytes) {m : MetaData} (e : action l ≡ Some (meta_data m)) where
  pub left_alone : agree_tables m no_table ≡ false
  unfolding agree_tables no_table
  left_alone = and-fails-left (same_each m.partition_columns []) (not_same m.id [] (action-id l m e))

  pub right-alone : agree_tables no_table m ≡ false
  unfolding agree_tables no_table
  right-alone = and-fails-left (same_each [] m.partition_columns) (not_same [] m.id (λ p. action-id l m e (sym p)))
