-- `begins_with`: all that the two have in common tells.
use mathlib.Core.Path.{sym, ◌∙◌}
use borrow.Author.Tests.{lt-leb}
use Rattle.bytes_values.proofs.Words.{begins-common, begins-longer}
use Rattle.bytes_values.proofs.begins_with.Goals as goal

pub returns-then-a-b : goal.returns-then-a-b
returns-then-a-b c = begins-common c.args.a.now c.args.b.now c.common.result c.if-a-b.true c.common.ensures

pub returns-else-a-b : goal.returns-else-a-b
returns-else-a-b c = lt-leb _ _ c.if-a-b.false ∙ sym (begins-longer _ _ c.if-a-b.false)
