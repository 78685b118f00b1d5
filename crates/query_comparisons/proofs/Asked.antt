-- The tests of an order that the code makes are those of the rules.
use mathlib.Core.Path.{◌≡◌, refl}
use mathlib.Core.Bool.{not}
use Rattle.rules.specs.Bytes.{is_less, is_equal, is_more}
use Rattle.bytes_values.specs.Answers.{order_of}
use Rattle.std.specs.declared.cmp.Ordering.{Ordering}
use Rattle.std.specs.declared.cmp.Ordering.TheVariants.{Less, Equal, Greater}
use Rattle.std.specs.Ordering.{is_eq, is_lt, is_le, is_gt, is_ge}

pub asked_eq : (o : Ordering) → is_eq o ≡ is_equal (order_of o)
unfolding order_of is_equal
asked_eq Less = refl
asked_eq Equal = refl
asked_eq Greater = refl

pub asked_lt : (o : Ordering) → is_lt o ≡ is_less (order_of o)
unfolding order_of is_less
asked_lt Less = refl
asked_lt Equal = refl
asked_lt Greater = refl

pub asked_le : (o : Ordering) → is_le o ≡ not (is_more (order_of o))
unfolding order_of is_more
asked_le Less = refl
asked_le Equal = refl
asked_le Greater = refl

pub asked_gt : (o : Ordering) → is_gt o ≡ is_more (order_of o)
unfolding order_of is_more
asked_gt Less = refl
asked_gt Equal = refl
asked_gt Greater = refl

pub asked_ge : (o : Ordering) → is_ge o ≡ not (is_less (order_of o))
unfolding order_of is_less
asked_ge Less = refl
asked_ge Equal = refl
asked_ge Greater = refl

pub ruleset asked = (asked_eq, asked_lt, asked_le, asked_gt, asked_ge)
