-- `conditions_in` meets its contract. The loop holds the conditions that went by, and what is left gets shorter.
use Rattle.query_conditions.proofs.Gathering.{Going}
use lib.ListN.{length}
use Prim.Native.Nat.{◌-◌}
use Rattle.query_conditions.proofs.reading.conditions_in.Given as goal

abbrev pub invariant-loop-n : goal.invariant-loop-n
invariant-loop-n l = Going l.q l.at l.i l.n l.conditions

abbrev pub decreases-loop-n : goal.decreases-loop-n
decreases-loop-n l = length l.q - l.i
