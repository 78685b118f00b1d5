-- `same_bytes`: of equal lengths, the one begins the other.
use mathlib.Core.Path.{sym, ◌∙◌}
use borrow.Author.Tests.{ne_eqb}
use Rattle.bytes_values.proofs.Words.{same-lengths, same-begins}
use Rattle.bytes_values.proofs.same_bytes.Goals as goal

pub returns-then-a-b : goal.returns-then-a-b
returns-then-a-b c = c.begins_with.ensures ∙ sym (same-begins c.args.a.now c.args.b.now c.if-a-b.true)

pub returns-else-a-b : goal.returns-else-a-b
returns-else-a-b c = ne_eqb _ _ c.if-a-b.false ∙ sym (same-lengths c.args.a.now c.args.b.now c.if-a-b.false)
