-- `skip_chars` meets its contract. The characters from `at` on go on at i.
use Prim.Native.Nat.{◌-◌}
use lib.ListN.{length}
use Rattle.json_characters.proofs.Inside.{Inside}
use Rattle.json_characters.proofs.strings.skip_chars.Given as goal

abbrev pub invariant-loop-i : goal.invariant-loop-i
invariant-loop-i l = Inside l.s l.at l.i

abbrev pub decreases-loop-i : goal.decreases-loop-i
decreases-loop-i l = length l.s - l.i
