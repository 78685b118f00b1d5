-- What each answer of the crate is in the rules' terms.
use Rattle.rules.specs.Bytes.{Order as RuleOrder, less, equal, more}
use Rattle.std.specs.declared.cmp.Ordering.{Ordering}
use Rattle.std.specs.declared.cmp.Ordering.TheVariants.{Less, Equal, Greater}

-- ---- order: there and back

unfoldable pub order_is : RuleOrder → Ordering
order_is less = Less
order_is equal = Equal
order_is more = Greater

unfoldable pub order_of : Ordering → RuleOrder
order_of Less = less
order_of Equal = equal
order_of Greater = more
