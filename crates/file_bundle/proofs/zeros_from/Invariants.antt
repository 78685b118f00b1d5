-- What is left is zeros just where what began is.
use mathlib.Core.Path.{◌≡◌}
use lib.ListN.{drop}
use Rattle.rules.specs.Bundle.{zeros}
use Rattle.file_bundle.proofs.zeros_from.Given as goal

abbrev pub invariant-loop-i : goal.invariant-loop-i
invariant-loop-i l = zeros (drop l.at l.p) ≡ zeros (drop l.i l.p)
