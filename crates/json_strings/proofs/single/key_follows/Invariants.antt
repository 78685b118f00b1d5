-- `key_follows` meets its contract. What is to come is to the rest of the key as the string is to the key.
use lib.ListN.{drop}
use mathlib.Core.Path.{◌≡◌}
use Rattle.rules.specs.Bytes.{same}
use Rattle.json_strings.specs.Ahead.{Sound, ahead}
use Rattle.json_strings.specs.Flat.{flat}
use Rattle.json_strings.proofs.single.key_follows.Given as goal

abbrev pub invariant-loop-x : goal.invariant-loop-x
invariant-loop-x l = Sound l.s l.c × (same (ahead l.s l.c) (drop l.x-index l.x-items) ≡ same (flat (drop l.at l.s)) (drop l.k l.key))
