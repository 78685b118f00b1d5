-- For callers: what an answer says of the rules, where it is known which answer it was.
use mathlib.Core.Path.{◌≡◌, refl}
use Rattle.rules.specs.Bytes.{Order as RuleOrder, less, equal, more}
use Rattle.bytes_values.specs.Answers.{order_is, order_of}

-- ---- orders

pub order-back : (o : RuleOrder) → order_of (order_is o) ≡ o
unfolding order_is order_of
order-back less = refl
order-back equal = refl
order-back more = refl
