-- `read_at`: a version that is asked for.
use Rattle.reading.specs.Answers.{asked_is}
use Rattle.reading.proofs.read_at.Goals as goal

pub returns : goal.returns
unfolding asked_is
returns c = c.read_asked.ensures
