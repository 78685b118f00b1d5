-- `classify` meets its contract, by the key.
use Rattle.line_actions.proofs.Lines.{line-malformed}
use Rattle.line_actions.proofs.line.classify.Goals as goal

pub returns-in_err-k : goal.returns-in_err-k
returns-in_err-k c = rw c.from_residual.ensures (line-malformed c.args.line.now c.in_err-k.ensures)
