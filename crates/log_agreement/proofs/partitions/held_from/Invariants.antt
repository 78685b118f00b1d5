-- `held_from` meets its contract. The loop keeps that all pairs are held where those that are left are; what is left gets shorter.
use Prim.Native.Nat.{◌-◌, ◌≤◌}
use lib.ListN.{length}
use Rattle.log_agreement.proofs.Passing.{Going}
use Rattle.log_agreement.proofs.partitions.held_from.Given as goal

abbrev pub invariant-loop-n : goal.invariant-loop-n
invariant-loop-n l = (l.i ≤ length l.s) × Going l.s l.at l.t l.from l.i

abbrev pub decreases-loop-n : goal.decreases-loop-n
decreases-loop-n l = length l.s - l.i
