-- `skip_eights` meets its contract. The run of digits from `at` on goes on at i; a mark in a number ends what is passed within it.
use Prim.Native.Nat.{◌-◌}
use lib.ListN.{length}
use Rattle.rules.specs.Json.Numbers.{digits}
use Rattle.json_tokens.proofs.Runs.{Running}
use Rattle.json_tokens.proofs.numbers.skip_eights.Given as goal

abbrev pub invariant-loop-i : goal.invariant-loop-i
invariant-loop-i l = Running digits l.s l.at l.i

abbrev pub decreases-loop-i : goal.decreases-loop-i
decreases-loop-i l = length l.s - l.i
