-- `numeral_in` meets its contract. The bytes gathered and those to come are the string's.
use lib.ListN.{length, take, drop}
use mathlib.Core.List.{◌++◌}
use mathlib.Core.Path.{◌≡◌}
use Rattle.json_strings.specs.Ahead.{Sound, ahead}
use Rattle.json_strings.specs.Decoded.{decoded}
use Rattle.query_conditions.proofs.words.numeral_in.Given as goal

abbrev pub invariant-loop-n : goal.invariant-loop-n
invariant-loop-n l = Sound l.s l.c × (length l.digits ≡ 24) × (decoded (drop l.at l.s) ≡ take l.n l.digits ++ ahead l.s l.c)
