-- `agree` meets its contract: as many rows, the same metadata, the same protocol, and the same files.
use mathlib.Core.Path.{◌≡◌, refl, sym, ap₂, ◌∙◌}
use mathlib.Core.Bool.{Bool, ◌&&◌}
use mathlib.Core.List.{List}
use Prim.Native.Nat.{ℕ}
use lib.Dec.{eqb}
use borrow.Author.Tests.{eq-eqb, ne_eqb}
use Rattle.rules.specs.History.{or_unstated}
use Rattle.rules.specs.Agreement.{agree_rows, agree_tables, agree_protocols}
use Rattle.row_table.specs.Table.{behind}
use Rattle.row_live.proofs.Becoming.{onward}
use Rattle.log_replay.specs.Views.{or_no_table, table_at, protocol_at}
use Rattle.log_agreement.proofs.Stated.{and-then, and-else}
use Rattle.log_agreement.proofs.Views.{viewed, states-by}
use Rattle.log_agreement.proofs.agree.Goals as goal
use Rattle.log_agreement.proofs.agree.Goals.{Joined-same_tables, then-n-b, else-n-b, then-same_tables, else-same_tables}

module _ (c : Joined-same_tables) where
  abbrev tables : Bool
  tables = agree_tables (or_no_table (table_at c.args.src.now c.args.a.table)) (or_no_table (table_at c.args.src.now c.args.b.table))

  abbrev protocols : Bool
  protocols = agree_protocols (or_unstated (protocol_at c.args.src.now c.args.a.protocol)) (or_unstated (protocol_at c.args.src.now c.args.b.protocol))

  same_metadata : c.if-n-b.value ≡ (eqb c.args.a.live c.args.b.live && tables)
  same_metadata = elim c.if-n-b.branch [
    | then-n-b w ↦ w.value-is ∙ and-then refl w.same_tables.ensures (eq-eqb _ _ w.if-n-b.true)
    | else-n-b w ↦ w.value-is ∙ and-else tables refl (ne_eqb _ _ w.if-n-b.false)
  ]

  so_far : c.if-same_tables.value ≡ ((eqb c.args.a.live c.args.b.live && tables) && protocols)
  so_far = elim c.if-same_tables.branch [
    | then-same_tables w ↦ w.value-is ∙ and-then same_metadata w.same_protocols.ensures w.if-same_tables.true
    | else-same_tables w ↦ w.value-is ∙ and-else protocols same_metadata w.if-same_tables.false
  ]

pub returns-then-same_protocols : goal.returns-then-same_protocols
returns-then-same_protocols c =
    and-then (so_far (goal.at.returns-then-same_protocols c).Joined-same_tables)
    (c.same_rows.ensures
    ∙ ap₂ (λ (t u : List ℕ). agree_rows (viewed c.args.src.now c.args.a.live t) (viewed c.args.src.now c.args.a.live u)) (onward c.args.a.base c.args.ta.now)
    (onward c.args.b.base c.args.tb.now))
    c.if-same_protocols.true
    ∙ sym (states-by c.args.src.now c.args.a c.args.b c.args.ta.now c.args.tb.now)

pub returns-else-same_protocols : goal.returns-else-same_protocols
returns-else-same_protocols c =
    and-else
    (agree_rows (viewed c.args.src.now c.args.a.live (behind c.args.a.base c.args.ta.now))
    (viewed c.args.src.now c.args.a.live (behind c.args.b.base c.args.tb.now)))
    (so_far (goal.at.returns-else-same_protocols c).Joined-same_tables) c.if-same_protocols.false
    ∙ sym (states-by c.args.src.now c.args.a c.args.b c.args.ta.now c.args.tb.now)
