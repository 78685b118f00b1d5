-- Up from what the marker names, or from 0.
use mathlib.Core.Path.{◌∙◌}
use Rattle.rules.specs.Starts.{log_of}
use Rattle.file_bundle.specs.Files.{files_in}
use Rattle.log_starts.proofs.Starting.{latest-marked, latest-unmarked}
use Rattle.log_starts.proofs.latest.Goals as goal

pub returns-in-Some : goal.returns-in-Some
returns-in-Some c = c.climb.ensures ∙ latest-marked (log_of (files_in c.args.s.now)) c.in-Some.v c.in-Some.ensures

pub returns-in-None : goal.returns-in-None
returns-in-None c = c.climb-in-None.ensures ∙ latest-unmarked (log_of (files_in c.args.s.now)) c.in-None.ensures
