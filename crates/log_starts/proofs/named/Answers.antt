-- The marker file and its text, one after the other.
use mathlib.Core.Path.{sym, ap, ◌∙◌}
use Rattle.rules.specs.Starts.{log_of}
use Rattle.rules.specs.Marker.{marker_version}
use Rattle.file_bundle.specs.Files.{files_in}
use Rattle.log_starts.proofs.Starting.{named_none, named-text}
use Rattle.log_starts.proofs.named.Goals as goal

pub returns-in_err-m : goal.returns-in_err-m
returns-in_err-m c = rw c.from_residual.ensures (sym (named_none (log_of (files_in c.args.s.now)) c.in_err-m.ensures))

pub returns : goal.returns
returns c =
    c.marker_version.ensures ∙ ap marker_version c.body_in.ensures ∙ sym (named-text (log_of (files_in c.args.s.now)) _ c.in_ok-m.ensures.1)
