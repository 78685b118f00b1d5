-- `add_of` meets its contract: what the line says by its action, or none by each other action.
use mathlib.Core.Path.{ap}
use Rattle.line_actions.specs.Asked.{add_in}
use Rattle.line_actions.proofs.Sole.{no_add-here}
use Rattle.line_actions.proofs.asked.add_of.Goals as goal

pub returns-in_err-a : goal.returns-in_err-a
unfolding add_in
returns-in_err-a c = rw c.from_residual.ensures (ap add_in c.in_err-a.ensures)

pub returns-in_default : goal.returns-in_default
returns-in_default c = no_add-here _ c.args.line.now c.in_ok-a.field-0 c.in_ok-a.ensures c.in_default.not-Add
