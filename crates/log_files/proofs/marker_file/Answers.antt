-- The marker is the file of one name.
use mathlib.Core.Path.{sym, subst}
use Rattle.std.specs.Prelude.{Option}
use Rattle.rules.specs.Bytes.{ascii}
use Rattle.rules.specs.Bundle.{File}
use Rattle.rules.specs.Names.{is_marker}
use Rattle.rules.specs.Starts.{log_of}
use Rattle.log_files.specs.Logs.{PlaceIs}
use Rattle.log_files.proofs.Spellings.{find-lookup, marker-same}
use Rattle.log_files.proofs.marker_file.Goals as goal

pub returns : goal.returns
unfolding log_of ascii
returns c =
    subst
    (λ (o : Option File). PlaceIs c.args.s.now o c.find.result)
    (sym (find-lookup is_marker (ascii "_last_checkpoint") marker-same _))
    c.find.ensures
