-- `bare` leaves the places alone in the heads: each turn bares one row, as `Baring` says.
use Rattle.row_live.proofs.Baring.{baring-start, baring-turn}
use Rattle.row_live.proofs.bare.Goals as goal

pub loop-k-init : goal.loop-k-init
loop-k-init c = baring-start _ _

pub loop-k-preserved : goal.loop-k-preserved
loop-k-preserved c = baring-turn c.requires c.loop-k.invariant c.loop-k-test.true
