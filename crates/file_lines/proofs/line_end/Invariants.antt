-- The invariant: no line feed has been passed, neither by sixteens nor one by one.
use Rattle.file_lines.specs.Ends.{Free}
use Rattle.file_lines.proofs.line_end.Given as goal

abbrev pub invariant-loop-i : goal.invariant-loop-i
invariant-loop-i l = Free l.s l.from l.i
