-- `table_of` meets its contract: what the line says by its action, or none by each other action.
use mathlib.Core.Path.{ap}
use Rattle.line_actions.specs.Asked.{meta_data_in}
use Rattle.line_actions.proofs.Sole.{no_table-here}
use Rattle.line_actions.proofs.asked.table_of.Goals as goal

pub returns-in_err-m : goal.returns-in_err-m
unfolding meta_data_in
returns-in_err-m c = rw c.from_residual.ensures (ap meta_data_in c.in_err-m.ensures)

pub returns-in_default : goal.returns-in_default
returns-in_default c = no_table-here _ c.args.line.now c.in_ok-m.field-0 c.in_ok-m.ensures c.in_default.not-MetaData
