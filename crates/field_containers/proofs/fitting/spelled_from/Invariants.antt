-- `spelled_from` meets its contract. The loop keeps that what is left of both decides; what is left gets shorter.
use Prim.Native.Nat.{◌-◌, ◌≤◌}
use lib.ListN.{length}
use Rattle.field_containers.proofs.InStep.{InStep}
use Rattle.field_containers.proofs.fitting.spelled_from.Given as goal

abbrev pub invariant-loop-n : goal.invariant-loop-n
invariant-loop-n l = (l.i ≤ length l.s) × (l.j ≤ length l.t) × InStep l.s l.at l.t l.from l.i l.j

abbrev pub decreases-loop-n : goal.decreases-loop-n
decreases-loop-n l = length l.s - l.i
