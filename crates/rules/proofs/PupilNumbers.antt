-- The examples of values out of range hold of the rules, by computation.
use mathlib.Core.Path.{refl}
use lib.ListN.{drop}
use Rattle.rules.specs.Edges.{Holds}
use Rattle.rules.specs.PupilNumbers.{values, conditions, live_ones, bounds}
use Rattle.rules.proofs.Opened.{rules}

pub values-hold : Holds values
unfolding rules
values-hold = (refl, (refl, (refl, (refl, (refl, (refl, (refl, (refl, (refl, (refl, (refl, (refl, later))))))))))))
  where
    later : Holds (drop 12 values)
    later = (refl, (refl, (refl, (refl, (refl, tt)))))

pub conditions-hold : Holds conditions
unfolding rules
conditions-hold = (refl, (refl, (refl, (refl, (refl, (refl, (refl, (refl, (refl, (refl, tt))))))))))

pub live_ones-hold : Holds live_ones
unfolding rules
live_ones-hold = (refl, (refl, (refl, (refl, (refl, (refl, (refl, tt)))))))

pub bounds-hold : Holds bounds
unfolding rules
bounds-hold = (refl, (refl, (refl, (refl, (refl, (refl, tt))))))
