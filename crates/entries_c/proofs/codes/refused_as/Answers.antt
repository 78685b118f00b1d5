-- The numbers of the refusal, as C gets them.
use mathlib.Core.Path.{ap}
use Rattle.entries_c.specs.Codes.{refused_by}
use Rattle.entries_c.proofs.codes.refused_as.Goals as goal

pub returns : goal.returns
returns c = ap refused_by c.numbers_of-n.ensures
