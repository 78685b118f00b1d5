-- `speaks` meets its contract. A line is well formed where it says anything.
use mathlib.Core.Path.{sym, ap, ◌∙◌}
use Rattle.line_actions.specs.Asked.{spoken_is}
use Rattle.line_actions.proofs.Sole.{spoken-else, spoken-table}
use Rattle.line_actions.proofs.asked.speaks.Goals as goal

pub returns-in_err-classify : goal.returns-in_err-classify
unfolding spoken_is
returns-in_err-classify c = c.from_residual.ensures ∙ sym (ap spoken_is c.in_err-classify.ensures)

pub returns-in-MetaData : goal.returns-in-MetaData
returns-in-MetaData c = spoken-table _ c.args.line.now c.in_ok-classify.field-0 c.in_ok-classify.ensures c.in-MetaData.is

pub returns-in_default : goal.returns-in_default
returns-in_default c = spoken-else _ c.args.line.now c.in_ok-classify.field-0 c.in_ok-classify.ensures c.in_default.not-MetaData
