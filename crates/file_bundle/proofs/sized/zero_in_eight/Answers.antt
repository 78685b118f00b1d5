-- `zero_in_eight` meets its contract: twice four.
use native.Mathlib.Omega.{arith}
use Rattle.file_bundle.proofs.Padding.{filled-both}
use Rattle.file_bundle.proofs.sized.zero_in_eight.Goals as goal

pub returns : goal.returns
returns c =
    filled-both c.args.p.now c.args.i 4 4 8 _ _ (omega arith) c.zero_in_four.ensures c.zero_in_four-2.ensures
