-- `feed_in_four` meets its contract: four tests side by side.
use native.Mathlib.Omega.{arith}
use Prim.Native.Nat.{◌+◌}
use Rattle.file_lines.proofs.Laws.{free_one, free-both}
use Rattle.file_lines.proofs.feed_in_four.Goals as goal

pub returns : goal.returns
returns c =
    let s = c.args.s.now in
    let i = c.args.i in
    free-both s i (i + 3) (i + 4) _ _ (omega arith)
    (free-both s i (i + 2) (i + 3) _ _ (omega arith)
    (free-both s i (i + 1) (i + 2) _ _ (omega arith) (free_one s i) (free_one s (i + 1)))
    (free_one s (i + 2)))
    (free_one s (i + 3))
