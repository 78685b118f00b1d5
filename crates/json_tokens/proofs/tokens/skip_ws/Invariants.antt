-- `skip_ws` meets its contract. The run of white space from `at` on goes on at i.
use Prim.Native.Nat.{◌-◌}
use lib.ListN.{length}
use Rattle.rules.specs.Json.Text.{ws}
use Rattle.json_tokens.proofs.Runs.{Running}
use Rattle.json_tokens.proofs.tokens.skip_ws.Given as goal

abbrev pub invariant-loop-i : goal.invariant-loop-i
invariant-loop-i l = Running ws l.s l.at l.i

abbrev pub decreases-loop-i : goal.decreases-loop-i
decreases-loop-i l = length l.s - l.i
