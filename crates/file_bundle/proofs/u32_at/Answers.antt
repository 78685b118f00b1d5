-- Four bytes make their number by the law of four.
use native.Mathlib.Omega.{arith}
use Rattle.rules.proofs.LittleFields.{four-little}
use Rattle.file_bundle.proofs.u32_at.Goals as goal

pub returns : goal.returns
returns c =
    (four-little c.args.s.now c.args.at _ _ _ _ c.requires c.byte_at-a.ensures.0 c.byte_at-b.ensures.0 c.byte_at-c.ensures.0 c.byte_at-d.ensures.0, omega arith)
