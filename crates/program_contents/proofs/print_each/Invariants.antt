-- The bytes left fall with each request.
use lib.ListN.{length}
use Rattle.program_contents.proofs.print_each.Given as goal

abbrev pub decreases-loop-left : goal.decreases-loop-left
decreases-loop-left l = length l.left
