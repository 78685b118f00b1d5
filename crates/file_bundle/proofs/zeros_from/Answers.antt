-- What is left is zeros just where what began is.
use native.Mathlib.Omega.{arith}
use mathlib.Core.Path.{sym, ◌∙◌}
use Rattle.file_bundle.proofs.Padding.{zeros-more, zeros-other, zeros-end}
use Rattle.file_bundle.proofs.zeros_from.Goals as goal

pub returns-then-p-i-ne0 : goal.returns-then-p-i-ne0
returns-then-p-i-ne0 c =
    sym (c.loop-i.invariant ∙ zeros-other c.args.p.now c.loop-i.i (omega arith) c.if-p-i-ne0.true)

pub loop-i-preserved : goal.loop-i-preserved
loop-i-preserved c =
    c.loop-i.invariant ∙ zeros-more c.args.p.now c.loop-i.i (omega arith) c.if-p-i-ne0.false

pub returns : goal.returns
returns c = sym (c.loop-i.invariant ∙ zeros-end c.args.p.now c.loop-i.i (omega arith))
