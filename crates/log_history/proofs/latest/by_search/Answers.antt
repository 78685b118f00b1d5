-- `by_search`: the latest version, and the state there.
use Rattle.log_history.proofs.Beginning.{latest-is}
use Rattle.log_history.proofs.latest.by_search.Goals as goal

pub returns : goal.returns
returns c = latest-is _ _ _ _ c.latest-version.ensures c.state_at-reached.ensures
