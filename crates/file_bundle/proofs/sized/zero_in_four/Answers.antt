-- `zero_in_four` meets its contract: four tests side by side.
use native.Mathlib.Omega.{arith}
use Prim.Native.Nat.{◌+◌}
use Rattle.file_bundle.proofs.Padding.{filled-one, filled-both}
use Rattle.file_bundle.proofs.sized.zero_in_four.Goals as goal

pub returns : goal.returns
returns c =
    filled-both c.args.p.now c.args.i 3 1 4 _ _ (omega arith)
    (filled-both c.args.p.now c.args.i 2 1 3 _ _ (omega arith)
    (filled-both c.args.p.now c.args.i 1 1 2 _ _ (omega arith)
    (filled-one c.args.p.now c.args.i (omega (arith, c.requires)))
    (filled-one c.args.p.now (c.args.i + 1) (omega (arith, c.requires))))
    (filled-one c.args.p.now (c.args.i + 2) (omega (arith, c.requires))))
    (filled-one c.args.p.now (c.args.i + 3) (omega (arith, c.requires)))
