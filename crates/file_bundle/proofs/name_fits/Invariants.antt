-- Behind its first byte a name fits just where what is left of it does.
use mathlib.Core.Path.{◌≡◌}
use lib.ListN.{drop}
use Rattle.rules.specs.Bundle.{name_in, unpadded}
use Rattle.rules.specs.Bytes.{is_some}
use Rattle.file_bundle.proofs.name_fits.Given as goal

abbrev pub invariant-loop-i : goal.invariant-loop-i
invariant-loop-i l = is_some (name_in l.p) ≡ is_some (unpadded (drop l.i l.p))
