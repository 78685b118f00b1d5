-- Each turn judges a line, as `Judging` says.
use Prim.Native.Nat.{◌-◌}
use lib.ListN.{length}
use Rattle.log_starts.proofs.Judging.{Judging}
use Rattle.log_starts.proofs.is_start.Given as goal

abbrev pub invariant-loop-from : goal.invariant-loop-from
invariant-loop-from l = Judging l.body l.from l.told

abbrev pub decreases-loop-from : goal.decreases-loop-from
decreases-loop-from l = length l.body - l.from
