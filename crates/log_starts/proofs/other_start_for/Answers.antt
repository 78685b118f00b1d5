-- Below c the start is the highest there; what follows it is the version file of c.
use Rattle.rules.specs.Starts.{log_of}
use Rattle.file_bundle.specs.Files.{files_in}
use Rattle.log_starts.proofs.Starting.{other-zero, other-gap, other-falling, start-onward}
use Rattle.log_starts.proofs.other_start_for.Goals as goal

pub returns-then-c-eq0 : goal.returns-then-c-eq0
returns-then-c-eq0 c = other-zero (log_of (files_in c.args.s.now)) c.args.c.0 c.if-c-eq0.true

pub returns-in_err-k : goal.returns-in_err-k
returns-in_err-k c =
    rw c.from_residual.ensures (other-gap (log_of (files_in c.args.s.now)) c.args.c.0 c.if-c-eq0.false c.in_err-k.ensures)

pub returns : goal.returns
returns c =
    let f = other-falling (log_of (files_in c.args.s.now)) c.args.c.0 c.if-c-eq0.false c.in_ok-k.ensures.1 in
    start-onward c.args.s.now _ c.args.c.0 _ c.start_for.result f c.start_for.ensures
