-- What C gets of a reading.
use Rattle.std.specs.Prelude.{false}
use Rattle.rules.specs.Refusals.{Answer, accepted, refused}
use Rattle.rules.specs.Reading.{Told}
use Rattle.entries_c.specs.Codes.{refused_by, not_refused}
use Rattle.entries_c.specs.declared.reads.FilesListed.{FilesListed}

unfoldable pub listed_by : Answer Told → FilesListed
listed_by (accepted l) = record { refused = not_refused; version = l.version; rows = l.count; reader = l.reader; writer = l.writer; writable = l.can_write }
listed_by (refused r) = record { refused = refused_by r; version = 0; rows = 0; reader = 0; writer = 0; writable = false }
