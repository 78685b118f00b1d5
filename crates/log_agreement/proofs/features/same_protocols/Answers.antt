-- `same_protocols` meets its contract.
use Rattle.facts.specs.Parts.{part}
use Rattle.log_replay.specs.Views.{line_at}
use Rattle.log_agreement.proofs.features.same_protocols.Goals as goal

pub same_stated-requires : goal.same_stated-requires
unfolding part line_at
same_stated-requires c = (
  record { protocol = _; says = c.stated_at-x.ensures },
  record { protocol = _; says = c.stated_at-y.ensures },
)

pub returns : goal.returns
unfolding part line_at
returns c = c.same_stated.ensures _ _ c.stated_at-x.ensures c.stated_at-y.ensures
