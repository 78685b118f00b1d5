-- `one_more` meets its contract. By whether the field was seen before.
use Rattle.field_objects.proofs.Slots.{one-more-other}
use Rattle.field_objects.proofs.notes.one_more.Goals as goal

pub returns-then-seen-eq0 : goal.returns-then-seen-eq0
returns-then-seen-eq0 c = rw c.if-seen-eq0.true

pub returns-else-seen-eq0 : goal.returns-else-seen-eq0
returns-else-seen-eq0 c = one-more-other c.args.seen c.args.start c.args.end c.if-seen-eq0.false
