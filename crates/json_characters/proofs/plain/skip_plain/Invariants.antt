-- The invariant: what has been passed is plain. The measure is what is left. A number that is not plain as a whole ends the run within it.
use Prim.Native.Nat.{◌≤◌, ◌-◌}
use lib.ListN.{length}
use Rattle.json_characters.specs.Runs.{Plains}
use Rattle.json_characters.proofs.plain.skip_plain.Given as goal

abbrev pub invariant-loop-i : goal.invariant-loop-i
invariant-loop-i l = (l.at ≤ l.i) × (l.i ≤ length l.s) × Plains l.s l.at l.i

abbrev pub decreases-loop-i : goal.decreases-loop-i
decreases-loop-i l = length l.s - l.i
