-- `find_from` meets its contract. The loop keeps that what is asked of all members is asked of those that are left; what is left gets shorter.
use Prim.Native.Nat.{◌-◌, ◌≤◌}
use lib.ListN.{length, drop}
use Rattle.json_strings.specs.Decoded.{decoded}
use Rattle.field_objects.proofs.Going.{Going}
use Rattle.field_objects.proofs.lookup.find_from.Given as goal

abbrev pub invariant-loop-n : goal.invariant-loop-n
invariant-loop-n l = (l.i ≤ length l.s) × Going l.depth l.s l.at (decoded (drop l.j l.t)) l.i

abbrev pub decreases-loop-n : goal.decreases-loop-n
decreases-loop-n l = length l.s - l.i
