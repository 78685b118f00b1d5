-- Eight bytes are two fours, the lower first.
use native.Mathlib.Omega.{arith}
use Rattle.rules.proofs.LittleFields.{little-eight}
use Rattle.file_bundle.proofs.u64_at.Goals as goal

pub returns : goal.returns
returns c =
    let h = little-eight c.args.s.now c.args.at c.requires in
    omega arith
