-- `kerumpase_directory` meets its contract.
use Rattle.entries_c.proofs.Standing.{shown-own, shown-lent}
use Rattle.entries_c.proofs.states.kerumpase_directory.Goals as goal

pub returns-then-n-gt0 : goal.returns-then-n-gt0
returns-then-n-gt0 c = shown-own _ _ c.directory-own.ensures c.if-n-gt0.true

pub returns : goal.returns
returns c = shown-lent _ _ c.directory-own.ensures c.if-n-gt0.false
