-- `scan` meets its contract. The loop keeps the members that went by in the slots, and what is left; what is left gets shorter.
use Prim.Native.Nat.{◌-◌}
use lib.ListN.{length}
use Rattle.rules.specs.Json.Values.{value as rule_value}
use Rattle.field_objects.proofs.Scanning.{Going}
use Rattle.field_objects.proofs.objects.scan.Given as goal

abbrev pub invariant-loop-n : goal.invariant-loop-n
invariant-loop-n l = Going (rule_value l.depth) l.s l.at l.kind l.slots l.i

abbrev pub decreases-loop-n : goal.decreases-loop-n
decreases-loop-n l = length l.s - l.i
