-- `protocol_of` meets its contract: what the line says by its action, or none by each other action.
use mathlib.Core.Path.{ap}
use Rattle.line_actions.specs.Asked.{protocol_in}
use Rattle.line_actions.proofs.Sole.{no_protocol-here}
use Rattle.line_actions.proofs.asked.protocol_of.Goals as goal

pub returns-in_err-p : goal.returns-in_err-p
unfolding protocol_in
returns-in_err-p c = rw c.from_residual.ensures (ap protocol_in c.in_err-p.ensures)

pub returns-in_default : goal.returns-in_default
returns-in_default c = no_protocol-here _ c.args.line.now c.in_ok-p.field-0 c.in_ok-p.ensures c.in_default.not-Protocol
