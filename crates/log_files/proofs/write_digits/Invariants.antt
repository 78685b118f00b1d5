-- Each turn writes the last digit of what is left, as `Writing` says.
use mathlib.Core.Path.{◌≡◌}
use Prim.Native.Nat.{◌≤◌}
use lib.ListN.{length, take}
use Rattle.log_files.specs.Logs.{digits}
use Rattle.log_files.proofs.Writing.{Writing}
use Rattle.log_files.proofs.write_digits.Given as goal

abbrev pub invariant-loop-i : goal.invariant-loop-i
invariant-loop-i l = (20 ≤ length l.initial.t) × (take 20 l.initial.t ≡ digits 20 0) × Writing l.v l.initial.t l.t l.i l.left
