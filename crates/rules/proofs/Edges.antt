-- P1 to P12 hold of the rules, by computation.
use mathlib.Core.Path.{refl}
use lib.ListN.{drop}
use Rattle.rules.specs.Edges.{edges, Holds}
use Rattle.rules.proofs.Opened.{rules}

pub edges-hold : Holds edges
unfolding rules
edges-hold = (refl, (refl, (refl, (refl, (refl, (refl, (refl, (refl, (refl, (refl, (refl, (refl, (refl, (refl, (refl, (refl, later))))))))))))))))
  where
    -- from P7 on
    later : Holds (drop 16 edges)
    later = (refl, (refl, (refl, (refl, (refl, (refl, (refl, (refl, (refl, (refl, (refl, (refl, tt))))))))))))
