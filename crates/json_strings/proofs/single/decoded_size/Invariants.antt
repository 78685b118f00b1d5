-- `decoded_size` meets its contract. What was counted and what is to come are the whole.
use Prim.Native.Nat.{◌-◌}
use lib.ListN.{length}
use Rattle.json_strings.proofs.Sizes.{Counted}
use Rattle.json_strings.proofs.single.decoded_size.Given as goal

abbrev pub invariant-loop-i : goal.invariant-loop-i
invariant-loop-i l = Counted l.s l.at l.i l.n

abbrev pub decreases-loop-i : goal.decreases-loop-i
decreases-loop-i l = length l.s - l.i
