-- `order_ended` meets its contract. Nothing is less than something, and equal to nothing.
use mathlib.Core.Path.{sym, ap}
use Rattle.bytes_values.specs.Answers.{order_is}
use Rattle.json_strings.proofs.Orders.{order-none-none, order-none-some}
use Rattle.json_strings.proofs.pairs.order_ended.Goals as goal

pub returns-in-Some : goal.returns-in-Some
unfolding order_is
returns-in-Some c = ap order_is (sym (order-none-some c.in-Some.ensures.more))

pub returns-in-None : goal.returns-in-None
unfolding order_is
returns-in-None c = ap order_is (sym (order-none-none c.in-None.ensures))
