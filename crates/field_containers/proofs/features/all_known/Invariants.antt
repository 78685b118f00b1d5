-- `all_known` meets its contract. The loop keeps that all strings are known where those that are left are; what is left gets shorter.
use Prim.Native.Nat.{◌-◌, ◌≤◌}
use lib.ListN.{length}
use Rattle.rules.specs.Bytes.{all_among}
use Rattle.field_containers.specs.Strung.{Listed, Onward}
use Rattle.field_containers.specs.Featured.{known_names}
use Rattle.rules.proofs.Asking.{Asked}
use Rattle.field_containers.proofs.features.all_known.Given as goal

abbrev pub invariant-loop-n : goal.invariant-loop-n
invariant-loop-n l = (l.i ≤ length l.s) × Asked (Listed l.s l.at) (Onward l.s) (all_among (known_names l.writer)) l.i

abbrev pub decreases-loop-n : goal.decreases-loop-n
decreases-loop-n l = length l.s - l.i
