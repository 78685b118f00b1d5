-- The bytes passed, and the size of what is left.
use mathlib.Core.Path.{◌≡◌}
use Prim.Native.Nat.{◌+◌}
use lib.ListN.{drop}
use Rattle.file_bundle.specs.Files.{name_size}
use Rattle.file_bundle.proofs.name_size.Given as goal

abbrev pub invariant-loop-i : goal.invariant-loop-i
invariant-loop-i l = name_size l.p ≡ l.i + name_size (drop l.i l.p)
