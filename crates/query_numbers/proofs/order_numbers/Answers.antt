-- `order_numbers`: each answer by the signs; a zero with a minus is zero.
use mathlib.Core.Path.{sym, ap, ◌∙◌}
use native.Mathlib.Omega.{arith}
use Rattle.bytes_values.specs.Answers.{order_is}
use Rattle.query_numbers.proofs.Signs.{sizes-order, numbers-zeros, numbers-negative, numbers-positive, numbers-less, numbers_more}
use Rattle.query_numbers.proofs.order_numbers.Goals as goal

pub returns-then-b-eq0 : goal.returns-then-b-eq0
unfolding order_is
returns-then-b-eq0 c = ap order_is (sym (numbers-zeros c.args.a c.args.b c.if-a-eq0.true c.if-b-eq0.true))

pub returns-in-true-true : goal.returns-in-true-true
returns-in-true-true c =
    c.cmp.ensures ∙ sizes-order c.args.b.size c.args.a.size
    ∙ ap order_is (sym (numbers-negative c.args.a c.args.b c.in-true-true.is-0 c.in-true-true.is-1))

pub returns-in-true-false : goal.returns-in-true-false
unfolding order_is
returns-in-true-false c =
    ap order_is (sym (numbers-less c.args.a c.args.b c.in-true-false.is-0 c.in-true-false.is-1 (λ p q. omega arith)))

pub returns-in-false-true : goal.returns-in-false-true
unfolding order_is
returns-in-false-true c =
    ap order_is (sym (numbers_more c.args.a c.args.b c.in-false-true.is-0 c.in-false-true.is-1 (λ p q. omega arith)))

pub returns-in-false-false : goal.returns-in-false-false
returns-in-false-false c =
    c.cmp-in-false-false.ensures ∙ sizes-order c.args.a.size c.args.b.size
    ∙ ap order_is (sym (numbers-positive c.args.a c.args.b c.in-false-false.is-0 c.in-false-false.is-1))
