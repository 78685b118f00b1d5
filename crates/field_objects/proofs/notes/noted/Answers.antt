-- `noted` meets its contract. By whether the slot is a name's.
use Rattle.field_objects.proofs.notes.noted.Goals as goal

pub returns-then-named : goal.returns-then-named
returns-then-named c = rw c.if-named.true c.one_more.ensures

pub returns-else-named : goal.returns-else-named
returns-else-named c = rw c.if-named.false
