-- `common_eight` meets its contract: the two numbers are the bytes of the two texts.
use Rattle.bytes_eights.proofs.Sides.{common-eight}
use Rattle.bytes_eights.proofs.common_eight.Goals as goal

pub returns : goal.returns
returns c =
    common-eight c.args.s.now c.args.i c.args.t.now c.args.j _ _ _ c.word_at.ensures c.word_at-2.ensures c.common_in.ensures.1
