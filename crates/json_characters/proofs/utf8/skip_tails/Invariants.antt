-- `skip_tails` meets its contract. Of the n tails from `at` on, those that are not counted are left at i.
use Prim.Native.Nat.{◌-◌}
use Rattle.rules.proofs.Json.Tails.{Tailing}
use Rattle.json_characters.proofs.utf8.skip_tails.Given as goal

abbrev pub invariant-loop : goal.invariant-loop
invariant-loop l = Tailing l.n l.s l.at l.i (l.n - l.counter)
