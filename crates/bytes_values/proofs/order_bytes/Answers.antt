-- `order_bytes`: the first byte that differs tells, and else the lengths.
use mathlib.Core.Path.{◌∙◌}
use Rattle.bytes_values.proofs.Words.{order-differ, order-ended}
use Rattle.bytes_values.proofs.order_bytes.Goals as goal

pub returns-then-n-few : goal.returns-then-n-few
returns-then-n-few c =
    c.cmp.ensures ∙ order-differ c.args.a.now c.args.b.now _ c.common-n.result c.min-few.ensures c.common-n.ensures c.if-n-few.true

pub returns : goal.returns
returns c =
    c.cmp-2.ensures ∙ order-ended c.args.a.now c.args.b.now _ c.common-n.result c.min-few.ensures c.common-n.ensures c.if-n-few.false
