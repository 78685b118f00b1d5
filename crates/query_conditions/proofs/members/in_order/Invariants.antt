-- `in_order` meets its contract. The loop keeps the members that went by, by their number and by which name was met first.
use Rattle.query_conditions.proofs.Naming.{Went}
use lib.ListN.{length}
use Prim.Native.Nat.{◌-◌, ◌≤◌}
use Rattle.query_conditions.proofs.members.in_order.Given as goal

abbrev pub invariant-loop-v : goal.invariant-loop-v
invariant-loop-v l = (l.n ≤ l.i) × Went l.depth l.s l.at l.i l.n l.first

abbrev pub decreases-loop-v : goal.decreases-loop-v
decreases-loop-v l = length l.s - l.i
