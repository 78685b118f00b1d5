-- The examples of foreign partition columns hold of the rules, by computation.
use mathlib.Core.Path.{refl}
use Rattle.rules.specs.Edges.{Holds}
use Rattle.rules.specs.ForeignColumns.{keys, held_to, orders}
use Rattle.rules.proofs.Opened.{rules}

pub keys-hold : Holds keys
unfolding rules
keys-hold = (refl, (refl, (refl, (refl, (refl, (refl, (refl, (refl, (refl, (refl, (refl, tt)))))))))))

pub held_to-hold : Holds held_to
unfolding rules
held_to-hold = (refl, (refl, (refl, (refl, (refl, (refl, (refl, (refl, (refl, (refl, (refl, (refl, (refl, (refl, (refl, tt)))))))))))))))

pub orders-hold : Holds orders
unfolding rules
orders-hold = (refl, (refl, (refl, (refl, (refl, (refl, (refl, (refl, (refl, tt)))))))))
