-- The bytes left fall with each text.
use lib.ListN.{length}
use Rattle.program_verdicts.proofs.print_each.Given as goal

abbrev pub decreases-loop-left : goal.decreases-loop-left
decreases-loop-left l = length l.left
