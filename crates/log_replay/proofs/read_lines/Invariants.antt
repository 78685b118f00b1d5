-- `read_lines`: each turn reads the line that begins at `at`.
use Prim.Native.Nat.{◌+◌, ◌-◌}
use lib.ListN.{length}
use Rattle.log_replay.proofs.Within.{Within}
use Rattle.log_replay.proofs.read_lines.Given as goal

abbrev pub invariant-loop-at : goal.invariant-loop-at
invariant-loop-at l = Within l.src l.body l.entry l.from l.limit l.held l.initial.t l.initial.state l.t l.at l.state l.met l.line

abbrev pub decreases-loop-at : goal.decreases-loop-at
decreases-loop-at l = length l.body + 1 - l.at
