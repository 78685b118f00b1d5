-- `named_from` meets its contract. The loop keeps that the name is held by what is left, if it is at all; what is left gets shorter.
use Prim.Native.Nat.{◌-◌, ◌≤◌}
use lib.ListN.{length}
use Rattle.rules.specs.Bytes.{holds}
use Rattle.field_names.specs.Spelled.{name_in}
use Rattle.field_objects.specs.Namings.{Members}
use Rattle.rules.proofs.Asking.{Asked}
use Rattle.field_objects.proofs.objects.named_from.Given as goal

abbrev pub invariant-loop-m : goal.invariant-loop-m
invariant-loop-m l = (l.i ≤ length l.s) × Asked (Members l.depth l.s l.at) (Members l.depth l.s) (holds (name_in l.s l.n)) l.i

abbrev pub decreases-loop-m : goal.decreases-loop-m
decreases-loop-m l = length l.s - l.i
