-- What is left decides, turn by turn; in the end, that the last body ends where the bundle does.
use native.Mathlib.Omega.{arith}
use mathlib.Core.Path.{sym, ◌∙◌}
use Rattle.file_bundle.proofs.Passing.{left_fits-last}
use Rattle.file_bundle.proofs.filled.Goals as goal

pub returns : goal.returns
returns c =
    left_fits-last c.args.s.now c.args.n c.loop-k.k c.loop-k.at (omega arith) c.loop-k.invariant.0 ∙ sym c.loop-k.invariant.1
