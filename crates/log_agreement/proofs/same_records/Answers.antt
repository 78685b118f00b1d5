-- `same_records` meets its contract.
use mathlib.Core.Path.{◌∙◌}
use Rattle.log_agreement.proofs.Added.{records-by}
use Rattle.log_agreement.proofs.same_records.Goals as goal

pub returns : goal.returns
returns c = c.eq.ensures ∙ records-by c.args.a c.args.b
