-- `order_rests` meets its contract. What is to come of one stands to what is to come of the other as the strings do.
use lib.ListN.{drop}
use mathlib.Core.Path.{◌≡◌}
use Rattle.rules.specs.Bytes.{order}
use Rattle.json_strings.specs.Ahead.{Sound, ahead, distance}
use Rattle.json_strings.specs.Flat.{flat}
use Rattle.json_strings.proofs.pairs.order_rests.Given as goal

abbrev pub invariant-loop-x : goal.invariant-loop-x
invariant-loop-x l = Sound l.s l.c × Sound l.t l.d × (order (ahead l.s l.c) (ahead l.t l.d) ≡ order (flat (drop l.i l.s)) (flat (drop l.j l.t)))

abbrev pub decreases-loop-x : goal.decreases-loop-x
decreases-loop-x l = distance l.s l.c
