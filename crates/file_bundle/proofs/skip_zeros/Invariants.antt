-- What is left is zeros just where what began is: a number that is zero is eight of them.
use mathlib.Core.Path.{◌≡◌}
use Prim.Native.Nat.{◌≤◌, ◌-◌}
use lib.ListN.{length, drop}
use Rattle.rules.specs.Bundle.{zeros}
use Rattle.file_bundle.proofs.skip_zeros.Given as goal

abbrev pub invariant-loop-i : goal.invariant-loop-i
invariant-loop-i l = (l.i ≤ length l.p) × (zeros (drop l.at l.p) ≡ zeros (drop l.i l.p))

abbrev pub decreases-loop-i : goal.decreases-loop-i
decreases-loop-i l = length l.p - l.i
