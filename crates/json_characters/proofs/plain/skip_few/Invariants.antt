-- The invariant: what has been passed is plain. What ends it is not plain, or the end.
use Rattle.json_characters.specs.Runs.{Plains}
use Rattle.json_characters.proofs.plain.skip_few.Given as goal

abbrev pub invariant-loop-i : goal.invariant-loop-i
invariant-loop-i l = Plains l.s l.at l.i
