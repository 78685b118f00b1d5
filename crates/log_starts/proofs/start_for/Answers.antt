-- Going down from v, what is above is behind, as `Falling` says.
use Rattle.rules.specs.Starts.{log_of}
use Rattle.file_bundle.specs.Files.{files_in}
use Rattle.log_starts.proofs.Starting.{falling-start, falling-gap, falling-next, falling-zero, falling-checkpoint}
use native.Mathlib.Omega.{arith}
use Rattle.log_starts.proofs.start_for.Goals as goal

pub loop-k-init : goal.loop-k-init
loop-k-init c = falling-start (log_of (files_in c.args.s.now)) _

pub returns-in-Some : goal.returns-in-Some
returns-in-Some c =
    let p = c.in-Some.ensures in
    let r = falling-checkpoint (log_of (files_in c.args.s.now)) c.loop-k.invariant p.1 in
    (p.0, p.1, r.0, r.1, r.2)

pub returns-then-w-eq0 : goal.returns-then-w-eq0
returns-then-w-eq0 c = falling-zero (log_of (files_in c.args.s.now)) c.loop-k.invariant c.if-w-eq0.true c.in_default.ensures

pub returns-in_err-k : goal.returns-in_err-k
returns-in_err-k c =
    rw c.from_residual.ensures
    (falling-gap (log_of (files_in c.args.s.now)) c.loop-k.invariant c.if-w-eq0.false c.in_default.ensures c.in_err-k.ensures)

pub loop-k-smaller : goal.loop-k-smaller
loop-k-smaller c = omega (arith, c.if-w-eq0.false)

pub loop-k-preserved : goal.loop-k-preserved
loop-k-preserved c =
    falling-next (log_of (files_in c.args.s.now)) c.loop-k.invariant c.if-w-eq0.false c.in_default.ensures c.in_ok-k.ensures.1
