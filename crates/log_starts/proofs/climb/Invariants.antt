-- Each turn passes one version file, as `Climbing` says; above the highest version there is none.
use Rattle.rules.specs.Starts.{log_of}
use Rattle.file_bundle.specs.Files.{files_in}
use Rattle.rules.proofs.Climbing.{Climbing}
use Rattle.log_starts.proofs.climb.Given as goal

abbrev pub invariant-loop-w : goal.invariant-loop-w
invariant-loop-w l = Climbing (log_of (files_in l.s)) l.v.0 l.w
