-- `can_write` meets its contract: the number for writers, then the features.
use borrow.Author.Tests.{le-leb, lt-leb}
use Rattle.rules.specs.Gate.{known_writer}
use Rattle.log_gate.proofs.can_write.Goals as goal

pub returns-then-p-le-KNOWN_WRITER : goal.returns-then-p-le-KNOWN_WRITER
unfolding known_writer
returns-then-p-le-KNOWN_WRITER c = rw (le-leb c.args.p.writer 3 c.if-p-le-KNOWN_WRITER.true)

pub returns-else-p-le-KNOWN_WRITER : goal.returns-else-p-le-KNOWN_WRITER
unfolding known_writer
returns-else-p-le-KNOWN_WRITER c = rw (lt-leb c.args.p.writer 3 c.if-p-le-KNOWN_WRITER.false)
