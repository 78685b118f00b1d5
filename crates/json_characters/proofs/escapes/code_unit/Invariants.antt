-- `code_unit` meets its contract. The digits from `at` up to i stand for u.
use Rattle.json_characters.proofs.Units.{Spelt}
use Rattle.json_characters.proofs.escapes.code_unit.Given as goal

abbrev pub invariant-loop-i : goal.invariant-loop-i
invariant-loop-i l = Spelt l.s l.at l.i l.u
