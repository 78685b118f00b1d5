-- `nothing_live` keeps nothing but where the rows are to stand.
use Rattle.log_replay.proofs.Nothing.{nothing-renewed}
use Rattle.log_replay.proofs.begin.nothing_live.Goals as goal

pub returns : goal.returns
returns c = nothing-renewed _
