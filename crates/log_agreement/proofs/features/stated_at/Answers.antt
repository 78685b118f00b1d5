-- `stated_at` meets its contract: a protocol, or none.
use Rattle.facts.specs.Parts.{part}
use Rattle.log_replay.specs.Views.{line_at}
use Rattle.log_agreement.proofs.Stated.{stated-or}
use Rattle.log_agreement.proofs.features.stated_at.Goals as goal

pub returns : goal.returns
unfolding part line_at
returns c = rw c.unwrap_or.ensures (stated-or c.args.src.now c.args.line c.protocol_of.result c.protocol_of.ensures)
