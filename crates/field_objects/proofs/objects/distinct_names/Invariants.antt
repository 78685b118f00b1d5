-- `distinct_names` meets its contract. The loop keeps that all names are distinct where those that are left are; what is left gets shorter.
use Prim.Native.Nat.{◌-◌, ◌≤◌}
use lib.ListN.{length}
use Rattle.rules.specs.Bytes.{distinct}
use Rattle.field_objects.specs.Namings.{Object, Members}
use Rattle.rules.proofs.Asking.{Asked}
use Rattle.field_objects.proofs.objects.distinct_names.Given as goal

abbrev pub invariant-loop-n : goal.invariant-loop-n
invariant-loop-n l = (l.i ≤ length l.s) × Asked (Object l.depth l.s l.at) (Members l.depth l.s) distinct l.i

abbrev pub decreases-loop-n : goal.decreases-loop-n
decreases-loop-n l = length l.s - l.i
