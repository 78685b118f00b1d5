-- `add_of` meets its contract: the line of the row is an add, and no other action.
use Rattle.facts.specs.Parts.{part}
use Rattle.line_actions.proofs.Sole.{add-not-none}
use Rattle.log_agreement.proofs.Added.{an-add}
use Rattle.log_agreement.proofs.add_of.Goals as goal

pub returns-in-Some : goal.returns-in-Some
unfolding part
returns-in-Some c = an-add c.args.src.now c.args.c c.in-Some.ensures.1 c.in-Some.ensures.2

pub returns-in-None : goal.returns-in-None
unfolding part
returns-in-None c = add-not-none _ c.requires.adds c.in-None.ensures
