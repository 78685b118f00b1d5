-- `raw_end` meets its contract: plain bytes, and what `raw_here` passes, again and again.
use Prim.Native.Nat.{◌-◌}
use lib.ListN.{length}
use Rattle.json_strings.specs.Spelling.{Raw}
use Rattle.json_strings.proofs.pairs.raw_end.Given as goal

abbrev pub invariant-loop-k : goal.invariant-loop-k
invariant-loop-k l = Raw l.t l.j l.k

abbrev pub decreases-loop-k : goal.decreases-loop-k
decreases-loop-k l = length l.t - l.k
