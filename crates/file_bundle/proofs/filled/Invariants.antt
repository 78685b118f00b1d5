-- What is left decides, turn by turn; in the end, that the last body ends where the bundle does.
use mathlib.Core.Path.{◌≡◌}
use Prim.Native.Nat.{◌+◌, ◌*◌, ◌≤◌}
use lib.ListN.{length}
use Rattle.file_bundle.specs.Files.{left_fits}
use Rattle.file_bundle.proofs.filled.Given as goal

abbrev pub invariant-loop-k : goal.invariant-loop-k
invariant-loop-k l = (l.at ≤ length l.s) × (left_fits l.s l.n 0 (4 + 112 * l.n) ≡ left_fits l.s l.n l.k l.at)
