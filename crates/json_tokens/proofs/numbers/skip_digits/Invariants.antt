-- `skip_digits` meets its contract. The run of digits from `at` on goes on at i.
use Rattle.rules.specs.Json.Numbers.{digits}
use Rattle.json_tokens.proofs.Runs.{Running}
use Rattle.json_tokens.proofs.numbers.skip_digits.Given as goal

abbrev pub invariant-loop-i : goal.invariant-loop-i
invariant-loop-i l = Running digits l.s l.at l.i
