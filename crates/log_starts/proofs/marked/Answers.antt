-- The version that the marker names and the start there, one after the other.
use mathlib.Core.Path.{sym, ap}
use Rattle.rules.specs.Starts.{log_of}
use Rattle.file_bundle.specs.Files.{files_in}
use Rattle.log_starts.specs.Marks.{mark_is}
use Rattle.log_starts.proofs.Starting.{marked-none, marked-dead, marked-at}
use Rattle.log_starts.proofs.marked.Goals as goal

pub returns-in_err-n : goal.returns-in_err-n
unfolding mark_is
returns-in_err-n c =
    rw c.from_residual.ensures (sym (ap mark_is (marked-none (log_of (files_in c.args.s.now)) (sym c.in_err-n.ensures))))

pub returns-in_err-start_at : goal.returns-in_err-start_at
unfolding mark_is
returns-in_err-start_at c =
    rw c.from_residual-in_err-start_at.ensures
    (sym (ap mark_is (marked-dead (log_of (files_in c.args.s.now)) c.in_ok-n.n (sym c.in_ok-n.ensures) c.in_err-start_at.ensures)))

pub returns : goal.returns
unfolding mark_is
returns c = sym (ap mark_is (marked-at (log_of (files_in c.args.s.now)) c.in_ok-n.n (sym c.in_ok-n.ensures) c.in_ok-start_at.ensures.1))
