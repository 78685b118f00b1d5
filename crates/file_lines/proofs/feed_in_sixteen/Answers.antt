-- `feed_in_sixteen` meets its contract: four times four.
use native.Mathlib.Omega.{arith}
use Prim.Native.Nat.{◌+◌}
use Rattle.file_lines.proofs.Laws.{free-both}
use Rattle.file_lines.proofs.feed_in_sixteen.Goals as goal

pub returns : goal.returns
returns c =
    free-both c.args.s.now c.args.i (c.args.i + 12) (c.args.i + 16) _ _ (omega arith)
    (free-both c.args.s.now c.args.i (c.args.i + 8) (c.args.i + 12) _ _ (omega arith)
    (free-both c.args.s.now c.args.i (c.args.i + 4) (c.args.i + 8) _ _ (omega arith) c.feed_in_four.ensures c.feed_in_four-2.ensures)
    c.feed_in_four-3.ensures)
    c.feed_in_four-4.ensures
