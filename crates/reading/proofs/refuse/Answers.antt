-- `refuse`: zeros up to 6,144 are what a refusal leaves.
use native.Mathlib.Omega.{arith}
use Rattle.rules.specs.Live.{most_live}
use Rattle.reading.proofs.Rooms.{answer-refused}
use Rattle.reading.proofs.refuse.Goals as goal

pub zero-requires : goal.zero-requires
unfolding most_live
zero-requires c = (omega arith, c.requires.0)

pub returns : goal.returns
returns c =
    answer-refused _ _ _ c.requires.0 c.requires.1 c.zero.ensures
