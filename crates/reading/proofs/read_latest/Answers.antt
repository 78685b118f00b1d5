-- `read_latest`: the latest version.
use Rattle.reading.specs.Answers.{asked_is}
use Rattle.reading.proofs.read_latest.Goals as goal

pub returns : goal.returns
unfolding asked_is
returns c = c.read_asked.ensures
