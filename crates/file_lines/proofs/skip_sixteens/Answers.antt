-- The invariant: no line feed has been passed. The measure is what is left before `to`.
use native.Mathlib.Omega.{arith}
use Rattle.file_lines.proofs.Laws.{free-none, free-joined}
use Rattle.file_lines.proofs.skip_sixteens.Goals as goal

pub loop-i-init : goal.loop-i-init
loop-i-init c = (omega arith, c.requires.0, free-none c.args.s.now c.args.from)

pub overflow_sub-to : goal.overflow_sub-to
overflow_sub-to c = c.loop-i.invariant.1

pub feed_in_sixteen-requires : goal.feed_in_sixteen-requires
feed_in_sixteen-requires c = omega (arith, c.loop-i-test.true, c.loop-i.invariant.1, c.requires.1)

pub returns-then-feed_in_sixteen : goal.returns-then-feed_in_sixteen
returns-then-feed_in_sixteen c = c.loop-i.invariant

pub overflow_add-i : goal.overflow_add-i
overflow_add-i c = omega arith

pub loop-i-smaller : goal.loop-i-smaller
loop-i-smaller c = omega arith

pub loop-i-preserved : goal.loop-i-preserved
loop-i-preserved c = (
  omega (arith, c.loop-i.invariant.0),
  omega (arith, c.loop-i-test.true, c.loop-i.invariant.1),
  free-joined c.args.s.now _ _ _ c.loop-i.invariant.2 (c.feed_in_sixteen.ensures c.if-feed_in_sixteen.false),
)

pub returns : goal.returns
returns c = c.loop-i.invariant
