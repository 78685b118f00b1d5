-- `raw_end` meets its contract: plain bytes, and what `raw_here` passes, again and again.
use native.Mathlib.Omega.{arith}
use Rattle.json_strings.proofs.AsSpelled.{raw-none, raw-plain}
use Rattle.json_strings.proofs.pairs.raw_end.Goals as goal

pub loop-k-init : goal.loop-k-init
loop-k-init c =
    raw-plain (raw-none c.requires) _ c.skip_plain-k.ensures.0 c.skip_plain-k.ensures.1 c.skip_plain-k.ensures.2

pub returns-then-n-eq0 : goal.returns-then-n-eq0
returns-then-n-eq0 c = c.loop-k.invariant

pub overflow_add-k : goal.overflow_add-k
overflow_add-k c = omega (arith, (c.raw_here-n.ensures _ c.loop-k.invariant).high)

pub skip_plain-k-requires-in-loop-k : goal.skip_plain-k-requires-in-loop-k
skip_plain-k-requires-in-loop-k c = (c.raw_here-n.ensures _ c.loop-k.invariant).high

pub loop-k-smaller : goal.loop-k-smaller
loop-k-smaller c = omega (arith, c.skip_plain-k-in-loop-k.ensures.0)

pub loop-k-preserved : goal.loop-k-preserved
loop-k-preserved c =
    raw-plain (c.raw_here-n.ensures _ c.loop-k.invariant) _
    c.skip_plain-k-in-loop-k.ensures.0 c.skip_plain-k-in-loop-k.ensures.1 c.skip_plain-k-in-loop-k.ensures.2

pub returns : goal.returns
returns c = c.loop-k.invariant
