-- `same_facts` meets its contract.
use Rattle.facts.specs.Parts.{part}
use Rattle.log_agreement.proofs.same_facts.Goals as goal

pub same_adds-requires : goal.same_adds-requires
unfolding part
same_adds-requires c = (
  record { facts = _; says = c.add_of-x.ensures },
  record { facts = _; says = c.add_of-y.ensures },
)

pub returns : goal.returns
unfolding part
returns c = c.same_adds.ensures _ _ c.add_of-x.ensures c.add_of-y.ensures
