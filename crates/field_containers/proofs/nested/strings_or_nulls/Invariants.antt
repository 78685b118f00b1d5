-- `strings_or_nulls` meets its contract. The loop keeps that what went by are pairs, and what is left; what is left gets shorter.
use Prim.Native.Nat.{◌-◌}
use lib.ListN.{length}
use Rattle.field_containers.proofs.Partitions.{Paired}
use Rattle.field_containers.proofs.nested.strings_or_nulls.Given as goal

abbrev pub invariant-loop-v : goal.invariant-loop-v
invariant-loop-v l = Paired l.s l.at l.i

abbrev pub decreases-loop-v : goal.decreases-loop-v
decreases-loop-v l = length l.s - l.i
