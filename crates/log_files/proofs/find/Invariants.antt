-- `find` throws away what is before or behind the place that it looks at: names ascend.
use Prim.Native.Nat.{◌-◌}
use Rattle.log_files.proofs.Halving.{Halving}
use Rattle.log_files.proofs.find.Given as goal

abbrev pub invariant-loop-lo : goal.invariant-loop-lo
invariant-loop-lo l = Halving l.s l.name l.lo l.hi

abbrev pub decreases-loop-lo : goal.decreases-loop-lo
decreases-loop-lo l = l.hi - l.lo
