-- The invariant: no line feed has been passed. The measure is what is left before `to`.
use Prim.Native.Nat.{◌≤◌, ◌-◌}
use Rattle.file_lines.specs.Ends.{Free}
use Rattle.file_lines.proofs.skip_sixteens.Given as goal

abbrev pub invariant-loop-i : goal.invariant-loop-i
invariant-loop-i l = (l.from ≤ l.i) × (l.i ≤ l.to) × Free l.s l.from l.i

abbrev pub decreases-loop-i : goal.decreases-loop-i
decreases-loop-i l = l.to - l.i
