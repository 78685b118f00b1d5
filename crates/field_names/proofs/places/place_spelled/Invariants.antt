-- `place_spelled` meets its contract. The bytes gathered and those to come are the string's.
use mathlib.Core.Path.{◌≡◌}
use mathlib.Core.List.{◌++◌}
use lib.ListN.{length, take, drop}
use Rattle.json_strings.specs.Ahead.{Sound, ahead}
use Rattle.json_strings.specs.Decoded.{decoded}
use Rattle.field_names.proofs.places.place_spelled.Given as goal

abbrev pub invariant-loop-n : goal.invariant-loop-n
invariant-loop-n l = Sound l.s l.c × (length l.name ≡ 17) × (decoded (drop l.at l.s) ≡ take l.n l.name ++ ahead l.s l.c)
