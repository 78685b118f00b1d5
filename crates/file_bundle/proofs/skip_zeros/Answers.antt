-- What is left is zeros just where what began is: a number that is zero is eight of them.
use mathlib.Core.Path.{refl, ◌∙◌}
use native.Mathlib.Omega.{arith}
use Rattle.file_bundle.proofs.Padding.{zeros-eight}
use Rattle.file_bundle.proofs.skip_zeros.Goals as goal

pub loop-i-init : goal.loop-i-init
loop-i-init c = (c.requires, refl)

pub overflow_sub-p : goal.overflow_sub-p
overflow_sub-p c = c.loop-i.invariant.0

pub word_at-requires : goal.word_at-requires
word_at-requires c = omega (arith, c.loop-i-test.true, c.loop-i.invariant.0)

pub returns-then-word_at-ne0 : goal.returns-then-word_at-ne0
returns-then-word_at-ne0 c = c.loop-i.invariant

pub overflow_add-i : goal.overflow_add-i
overflow_add-i c = omega arith

pub loop-i-smaller : goal.loop-i-smaller
loop-i-smaller c = omega arith

pub loop-i-preserved : goal.loop-i-preserved
loop-i-preserved c = (
  omega (arith, c.loop-i-test.true, c.loop-i.invariant.0),
  c.loop-i.invariant.1 ∙ zeros-eight c.args.p.now _ _ (omega (arith, c.loop-i-test.true, c.loop-i.invariant.0)) c.word_at.ensures c.if-word_at-ne0.false,
)

pub returns : goal.returns
returns c = c.loop-i.invariant
