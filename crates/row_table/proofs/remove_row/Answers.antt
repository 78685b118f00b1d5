-- `remove_row` takes a row out: each turn moves rows down, as `Closing` says.
use mathlib.Core.Path.{refl}
use Prim.Native.Nat.{◌+◌, ◌-◌, ◌≤◌}
use Rattle.row_table.proofs.Moving.{closing-start, closing-turn, closing_end}
use native.Mathlib.Omega.{arith}
use Rattle.row_table.proofs.remove_row.Goals as goal

pub loop-j-init : goal.loop-j-init
loop-j-init c = closing-start c.args.t.now c.requires.0

pub loop-j-preserved : goal.loop-j-preserved
loop-j-preserved c =
    let high : c.loop-j.j + 4 ≤ c.args.n - 1 = omega (arith, c.loop-j-test.true, c.loop-j.invariant.high) in
    let one = closing-turn {m = c.loop-j.j + 1} c.loop-j.invariant (omega arith) refl (omega arith)
    (c.copy_row.ensures c.args.n (omega arith) (omega arith) (omega (arith, c.requires.1, c.loop-j.invariant.changed.length))) in
    let two = closing-turn {m = c.loop-j.j + 2} one (omega arith) (omega arith) (omega arith)
    (c.copy_row-in-loop-j.ensures c.args.n (omega arith) (omega arith) (omega (arith, c.requires.1, one.changed.length))) in
    let three = closing-turn {m = c.loop-j.j + 3} two (omega arith) (omega arith) (omega arith)
    (c.copy_row-in-loop-j-2.ensures c.args.n (omega arith) (omega arith) (omega (arith, c.requires.1, two.changed.length))) in
    closing-turn three (omega arith) (omega arith) (omega arith)
    (c.copy_row-in-loop-j-3.ensures c.args.n (omega arith) (omega arith) (omega (arith, c.requires.1, three.changed.length)))

pub loop-i-preserved : goal.loop-i-preserved
loop-i-preserved c =
    closing-turn c.loop-i.invariant c.loop-i-test.true refl refl
    (c.copy_row-in-loop-i.ensures c.args.n (omega (arith, c.loop-i-test.true)) (omega (arith, c.loop-i-test.true))
    (omega (arith, c.requires.1, c.loop-i.invariant.changed.length)))

pub returns : goal.returns
returns c = closing_end c.requires.0 c.loop-i.invariant c.loop-i-test.false
