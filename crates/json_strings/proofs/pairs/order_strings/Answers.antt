-- `order_strings` meets its contract: what is left behind the bytes in common tells how the strings stand.
use mathlib.Core.Path.{sym, ap, ◌∙◌}
use native.Mathlib.Omega.{arith}
use Rattle.bytes_values.specs.Answers.{order_is}
use Rattle.json_strings.proofs.Raw.{well-within}
use Rattle.json_strings.proofs.Orders.{order-decoded}
use Rattle.json_strings.proofs.AsSpelled.{common-whole}
use Rattle.json_strings.proofs.pairs.order_strings.Goals as goal

pub raw_end-end-requires : goal.raw_end-end-requires
raw_end-end-requires c = omega (arith, well-within c.requires.1)

pub overflow_sub-s : goal.overflow_sub-s
overflow_sub-s c = omega (arith, well-within c.requires.0)

pub common-n-requires : goal.common-n-requires
common-n-requires c = (
  omega (arith, c.min-room.ensures, well-within c.requires.0),
  omega (arith, c.min-room.ensures, c.raw_end-end.ensures.low, c.raw_end-end.ensures.high),
)

pub order_rests-requires : goal.order_rests-requires
order_rests-requires c =
    -- what they begin with in common
    let e = c.common-n.ensures in
    let passed =
    common-whole c.args.s.now c.args.i c.raw_end-end.ensures (well-within c.requires.0)
    (omega (arith, c.min-room.ensures), omega (arith, c.min-room.ensures)) (e.0, e.1) c.whole-m.ensures in
    (passed.first, passed.second)

pub returns : goal.returns
returns c =
    let e = c.common-n.ensures in
    let passed =
    common-whole c.args.s.now c.args.i c.raw_end-end.ensures (well-within c.requires.0)
    (omega (arith, c.min-room.ensures), omega (arith, c.min-room.ensures)) (e.0, e.1) c.whole-m.ensures in
    c.order_rests.ensures ∙ ap order_is (sym passed.same ∙ order-decoded c.requires.0 c.requires.1)
