-- `line_ends` meets its contract. The closing brace, white space, and the end.
use Rattle.line_actions.proofs.Lines.{ends-closed}
use Rattle.line_actions.proofs.line.line_ends.Goals as goal

pub returns-in-Closed : goal.returns-in-Closed
returns-in-Closed c = ends-closed c.args.line.now c.args.at c.in-Closed.i c.skip_ws.result c.in-Closed.ensures.0 c.skip_ws.ensures
