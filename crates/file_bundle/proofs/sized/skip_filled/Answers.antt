-- The bytes passed, and the size of what is left.
use native.Mathlib.Omega.{arith}
use Rattle.file_bundle.proofs.sized.skip_filled.Goals as goal

pub loop-i-init : goal.loop-i-init
loop-i-init c = (omega arith, omega arith)

pub overflow_sub-p : goal.overflow_sub-p
overflow_sub-p c = c.loop-i.invariant.0

pub zero_in_eight-requires : goal.zero_in_eight-requires
zero_in_eight-requires c = omega (arith, c.loop-i-test.true, c.loop-i.invariant.0)

pub returns-then-zero_in_eight : goal.returns-then-zero_in_eight
returns-then-zero_in_eight c = c.loop-i.invariant

pub overflow_add-i : goal.overflow_add-i
overflow_add-i c = omega arith

pub loop-i-smaller : goal.loop-i-smaller
loop-i-smaller c = omega arith

pub loop-i-preserved : goal.loop-i-preserved
loop-i-preserved c =
    (omega (arith, c.loop-i-test.true, c.loop-i.invariant.0), omega (arith, c.loop-i.invariant.1, c.zero_in_eight.ensures c.if-zero_in_eight.false))

pub returns : goal.returns
returns c = c.loop-i.invariant
