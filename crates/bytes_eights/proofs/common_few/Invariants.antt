-- `common_few` meets its contract: each byte that it passes is the same in both.
use Rattle.bytes_eights.specs.Alike.{Alike}
use Rattle.bytes_eights.proofs.common_few.Given as goal

abbrev pub invariant-loop-n : goal.invariant-loop-n
invariant-loop-n l = Alike l.s l.i l.t l.j l.n
