-- `insert_row` puts a row in: each turn moves rows up, as `Opening` says, and the last store fills the gap.
use mathlib.Core.Path.{refl}
use Prim.Native.Nat.{◌+◌, ◌≤◌, ◌<◌}
use Rattle.row_table.proofs.Moving.{opening-start, opening-turn, opening-end}
use native.Mathlib.Omega.{arith}
use Rattle.row_table.proofs.insert_row.Goals as goal

pub loop-j-init : goal.loop-j-init
loop-j-init c = opening-start c.args.t.now c.requires.0

pub loop-j-preserved : goal.loop-j-preserved
loop-j-preserved c =
    let low : c.args.k + 4 ≤ c.loop-j.j = omega (arith, c.loop-j-test.true) in
    let high : c.loop-j.j < c.args.n + 1 = omega (arith, c.loop-j.invariant.high) in
    let one = opening-turn c.loop-j.invariant (omega arith) (omega arith) refl
    (c.copy_row.ensures (c.args.n + 1) (omega arith) (omega arith) (omega (arith, c.loop-j.invariant.changed.length))) in
    let two = opening-turn one (omega arith) (omega arith) refl
    (c.copy_row-in-loop-j.ensures (c.args.n + 1) (omega arith) (omega arith) (omega (arith, one.changed.length))) in
    let three = opening-turn two (omega arith) (omega arith) refl
    (c.copy_row-in-loop-j-2.ensures (c.args.n + 1) (omega arith) (omega arith) (omega (arith, two.changed.length))) in
    opening-turn three (omega arith) (omega arith) refl
    (c.copy_row-in-loop-j-3.ensures (c.args.n + 1) (omega arith) (omega arith) (omega (arith, three.changed.length)))

pub loop-i-preserved : goal.loop-i-preserved
loop-i-preserved c =
    opening-turn c.loop-i.invariant (omega (arith, c.loop-i-test.true)) (omega (arith, c.loop-i-test.true)) (omega (arith, c.loop-i-test.true))
    (c.copy_row-in-loop-i.ensures (c.args.n + 1) (omega arith) (omega arith) (omega (arith, c.requires.1, c.loop-i.invariant.changed.length)))

pub returns : goal.returns
returns c =
    opening-end c.args.c c.loop-i.invariant c.loop-i-test.false
    (c.set_row.ensures (c.args.n + 1) (omega arith) (omega (arith, c.requires.1, c.loop-i.invariant.changed.length)))
