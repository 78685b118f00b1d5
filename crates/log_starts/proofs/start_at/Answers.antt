-- The checkpoint at v, where its body is that of a start.
use mathlib.Core.Path.{sym, ap, ◌∙◌}
use Rattle.rules.specs.Starts.{log_of, is_start}
use Rattle.file_bundle.specs.Files.{files_in, file_in}
use Rattle.log_starts.proofs.Starting.{start_none, start-good, start-bad}
use Rattle.log_starts.proofs.start_at.Goals as goal

pub returns-in_err-k : goal.returns-in_err-k
returns-in_err-k c = rw c.from_residual.ensures (start_none (log_of (files_in c.args.s.now)) _ c.in_err-k.ensures)

pub returns-then-is_start : goal.returns-then-is_start
returns-then-is_start c =
    let p = c.in_ok-k.ensures in
    let good = sym (ap is_start c.body_in.ensures) ∙ sym c.if-is_start.ensures in
    (p.0, start-good (log_of (files_in c.args.s.now)) _ (file_in c.args.s.now c.in_ok-k.k) p.1 good)

pub returns : goal.returns
returns c =
    let bad = sym (ap is_start c.body_in.ensures) ∙ sym c.if-is_start.ensures in
    start-bad (log_of (files_in c.args.s.now)) _ (file_in c.args.s.now c.in_ok-k.k) c.in_ok-k.ensures.1 bad
