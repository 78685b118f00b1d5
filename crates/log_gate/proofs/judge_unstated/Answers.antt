-- `judge_unstated` meets its contract: the unstated protocol passes.
use Rattle.log_gate.proofs.Judging.{unstated-passed}
use Rattle.log_gate.proofs.judge_unstated.Goals as goal

pub returns : goal.returns
returns c = unstated-passed
