-- Each turn writes the last digit of what is left, as `Writing` says.
use Rattle.log_files.proofs.Writing.{writing_start, writing-next, writing-end, digits-before, digits-zeros}
use native.Mathlib.Omega.{arith}
use Rattle.log_files.proofs.write_digits.Goals as goal

pub loop-i-init : goal.loop-i-init
loop-i-init c = (c.requires.0, c.requires.1, writing_start c.requires.0)

pub returns-then-left-eq0 : goal.returns-then-left-eq0
returns-then-left-eq0 c =
    writing-end c.loop-i.invariant.0 c.loop-i.invariant.2 (digits-zeros _ _ _ c.loop-i.invariant.1 (omega arith) c.if-left-eq0.true)

pub loop-i-preserved : goal.loop-i-preserved
loop-i-preserved c =
    (c.loop-i.invariant.0, c.loop-i.invariant.1, writing-next c.loop-i.invariant.0 c.loop-i.invariant.2 (omega arith))

pub returns : goal.returns
returns c = writing-end c.loop-i.invariant.0 c.loop-i.invariant.2 (digits-before _ _ _ (omega arith))
