-- Going down from v, what is above is behind, as `Falling` says.
use Rattle.rules.specs.Starts.{log_of, way_to}
use Rattle.file_bundle.specs.Files.{files_in}
use Rattle.log_starts.proofs.Starting.{Falling}
use Rattle.log_starts.proofs.start_for.Given as goal

abbrev pub invariant-loop-k : goal.invariant-loop-k
invariant-loop-k l = Falling (log_of (files_in l.s)) l.initial.w (way_to (log_of (files_in l.s)) l.initial.w) l.w

abbrev pub decreases-loop-k : goal.decreases-loop-k
decreases-loop-k l = l.w
