-- `strings_in` meets its contract. The loop keeps the strings that went by and what is left; what is left gets shorter.
use Prim.Native.Nat.{ℕ, ◌-◌, ◌≤◌}
use lib.ListN.{length}
use Rattle.field_containers.proofs.Collecting.{Collected}
use Rattle.field_containers.proofs.lists.strings_in.Given as goal

abbrev pub invariant-loop-x : goal.invariant-loop-x
invariant-loop-x l = (l.i ≤ length l.s) × (l.n ≤ l.i) × ((d : ℕ) → Collected d l.s l.at l.n l.i)

abbrev pub decreases-loop-x : goal.decreases-loop-x
decreases-loop-x l = length l.s - l.i
