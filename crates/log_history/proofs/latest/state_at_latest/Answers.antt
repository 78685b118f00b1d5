-- `state_at_latest`: from the checkpoint that the marker names, where it was read, and else by a search; the table was changed by then.
use Rattle.log_history.proofs.Beginning.{latest-join}
use Rattle.log_history.proofs.latest.state_at_latest.Goals as goal

pub from_checkpoint-requires : goal.from_checkpoint-requires
from_checkpoint-requires c = (c.requires.0, c.in-Some.ensures.0)

pub returns-in-Some : goal.returns-in-Some
returns-in-Some c = latest-join _ _ _ _ _ c.in-Some.ensures.1 c.from_checkpoint.ensures

pub returns-in-None : goal.returns-in-None
returns-in-None c = latest-join _ _ _ _ _ c.in-None.ensures c.by_search.ensures
