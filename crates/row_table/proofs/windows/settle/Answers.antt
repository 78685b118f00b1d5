-- `settle` meets its contract: each turn writes one row in its place, as `Settling` says.
use Rattle.row_table.proofs.Settling.{settling-start, settling-turn, settling-end}
use native.Mathlib.Omega.{arith}
use Rattle.row_table.proofs.windows.settle.Goals as goal

pub loop-k-init : goal.loop-k-init
loop-k-init c = settling-start c.args.t.now

pub loop-k-preserved : goal.loop-k-preserved
loop-k-preserved c =
    settling-turn c.loop-k.invariant c.loop-k-test.true
    (c.copy_row.ensures _ (omega (arith, c.loop-k-test.true)) (omega (arith, c.loop-k-test.true)) (omega arith))

pub returns : goal.returns
returns c = settling-end c.loop-k.invariant c.loop-k-test.false
