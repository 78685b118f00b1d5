-- `zero_lines`: each turn adds the line that begins at `at` to what was said.
use Prim.Native.Nat.{◌+◌, ◌-◌}
use lib.ListN.{length}
use Rattle.log_replay.proofs.Within.{Tells}
use Rattle.log_replay.proofs.begin.zero_lines.Given as goal

abbrev pub invariant-loop-at : goal.invariant-loop-at
invariant-loop-at l = Tells l.src l.body l.entry l.from l.at l.said l.line

abbrev pub decreases-loop-at : goal.decreases-loop-at
decreases-loop-at l = length l.body + 1 - l.at
