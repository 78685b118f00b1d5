-- `order_raw` meets its contract. The first bytes that differ tell how the strings stand, or what is left behind those in common does.
use mathlib.Core.Path.{sym, ap, ◌∙◌}
use Prim.Native.Nat.{◌+◌}
use native.Mathlib.Omega.{arith}
use Rattle.bytes_values.specs.Answers.{order_is}
use Rattle.json_strings.proofs.Raw.{well-within}
use Rattle.json_strings.proofs.Orders.{order-decoded, order-anew}
use Rattle.json_strings.proofs.AsSpelled.{common-whole, less-raw, more-raw}
use Rattle.json_strings.proofs.pairs.order_raw.Goals as goal

pub overflow_sub-s : goal.overflow_sub-s
overflow_sub-s c = omega (arith, well-within c.requires.0)

pub common-n-requires : goal.common-n-requires
common-n-requires c =
    (omega (arith, c.min-room.ensures, well-within c.requires.0), omega (arith, c.min-room.ensures, c.requires.2.low, c.requires.2.high))

pub returns-then-b-c : goal.returns-then-b-c
unfolding order_is
returns-then-b-c c =
    let d = less-raw c.args.s.now c.args.i c.requires.2 (omega arith)
    (omega (arith, c.min-room.ensures))
    c.common-n.ensures.1 (c.tells.ensures c.if-tells.true) c.if-b-c.true in
    ap order_is (sym d ∙ order-decoded c.requires.0 c.requires.1)

pub returns-then-c-b : goal.returns-then-c-b
unfolding order_is
returns-then-c-b c =
    let d = more-raw c.args.s.now c.args.i c.requires.2 (omega arith) (omega (arith, c.min-room.ensures))
    c.common-n.ensures.1
    (c.tells.ensures c.if-tells.true) c.if-c-b.true in
    ap order_is (sym d ∙ order-decoded c.requires.0 c.requires.1)

pub order_rests-requires : goal.order_rests-requires
order_rests-requires c =
    (omega (arith, well-within c.requires.0), omega (arith, c.requires.2.low, c.requires.2.high))

pub returns : goal.returns
returns c =
    let s = c.args.s.now in
    let t = c.args.t.now in
    let m = c.whole-m.result in
    let e = c.common-n.ensures in
    -- what they begin with in common
    let passed = common-whole s c.args.i c.requires.2 (well-within c.requires.0)
    (omega (arith, c.min-room.ensures), omega (arith, c.min-room.ensures)) (e.0, e.1) c.whole-m.ensures in
    c.order_rests.ensures
    ∙ ap order_is
    (order-anew s t (c.args.i + m) (c.args.j + m) ∙ sym passed.same ∙ order-decoded c.requires.0 c.requires.1)
