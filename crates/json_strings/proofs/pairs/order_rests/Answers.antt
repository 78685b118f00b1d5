-- `order_rests` meets its contract. What is to come of one stands to what is to come of the other as the strings do.
use lib.ListN.{drop}
use mathlib.Core.Path.{refl, sym, ap, ◌∙◌}
use native.Mathlib.Omega.{arith}
use Rattle.rules.specs.Bytes.{Bytes, order}
use Rattle.bytes_values.specs.Answers.{order_is}
use Rattle.json_strings.specs.Ahead.{ahead, fresh}
use Rattle.json_strings.specs.Flat.{flat}
use Rattle.json_strings.proofs.Ahead.{ahead-fresh, sound-fresh}
use Rattle.json_strings.proofs.Orders.{order-some-none, order-next-less, order-next-more, order-next-equal}
use Rattle.json_strings.proofs.pairs.order_rests.Goals as goal

pub loop-x-init : goal.loop-x-init
loop-x-init c = (
  sound-fresh c.args.s.now c.args.i c.requires.0,
  sound-fresh c.args.t.now c.args.j c.requires.1,
  ap (λ (x : Bytes). order x (ahead c.args.t.now (fresh c.args.j))) (ahead-fresh c.args.s.now (fresh c.args.i) refl)
      ∙ ap (order (flat (drop c.args.i c.args.s.now))) (ahead-fresh c.args.t.now (fresh c.args.j) refl),
)

pub next-requires : goal.next-requires
next-requires c = c.loop-x.invariant.0

pub order_ended-requires : goal.order_ended-requires
order_ended-requires c = c.loop-x.invariant.1

pub returns-in_default : goal.returns-in_default
returns-in_default c =
    c.order_ended.ensures
    ∙ ap order_is
    (ap (λ (x : Bytes). order x (ahead c.args.t.now c.loop-x.d))
    (sym c.in_default.ensures) ∙ c.loop-x.invariant.2)

pub next-requires-in-loop-x : goal.next-requires-in-loop-x
next-requires-in-loop-x c = c.loop-x.invariant.1

pub returns-in_default-next : goal.returns-in_default-next
unfolding order_is
returns-in_default-next c =
    let w = c.in-Some.ensures in
    ap order_is
    (sym (order-some-none w.more c.in_default-next.ensures)
    ∙ c.loop-x.invariant.2)

pub returns-then-x-y : goal.returns-then-x-y
unfolding order_is
returns-then-x-y c =
    let w = c.in-Some.ensures in
    let v = c.in-Some-next.ensures in
    ap order_is (sym (order-next-less w.more v.more c.if-x-y.true) ∙ c.loop-x.invariant.2)

pub returns-then-y-x : goal.returns-then-y-x
unfolding order_is
returns-then-y-x c =
    let w = c.in-Some.ensures in
    let v = c.in-Some-next.ensures in
    ap order_is (sym (order-next-more w.more v.more c.if-y-x.true) ∙ c.loop-x.invariant.2)

pub loop-x-smaller : goal.loop-x-smaller
loop-x-smaller c =
    let w = c.in-Some.ensures in
    w.nearer

pub loop-x-preserved : goal.loop-x-preserved
loop-x-preserved c =
    let w = c.in-Some.ensures in
    let v = c.in-Some-next.ensures in
    (w.sound, v.sound, sym (order-next-equal w.more v.more (omega arith)) ∙ c.loop-x.invariant.2)
