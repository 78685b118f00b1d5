-- `put_in` meets its contract: on the left a row taken out and one written, on the right a row put in.
use Prim.Native.Nat.{◌+◌, ◌-◌}
use Rattle.row_table.proofs.Standing.{stood-put-left, stood-put-right}
use native.Mathlib.Omega.{arith}
use Rattle.row_table.proofs.windows.put_in.Goals as goal

pub overflow_sub-base : goal.overflow_sub-base
overflow_sub-base c = omega (arith, c.goes_left.ensures.0 c.if-goes_left.true)

pub remove_row-requires : goal.remove_row-requires
remove_row-requires c =
    let g = c.goes_left.ensures.0 c.if-goes_left.true in
    (omega (arith, g), omega (arith, c.requires.0, c.requires.2, c.requires.3))

pub overflow_sub-place : goal.overflow_sub-place
overflow_sub-place c = omega (arith, c.goes_left.ensures.0 c.if-goes_left.true)

pub overflow_sub-result : goal.overflow_sub-result
overflow_sub-result c =
    omega (arith, c.goes_left.ensures.0 c.if-goes_left.true)

pub returns-then-goes_left : goal.returns-then-goes_left
returns-then-goes_left c =
    let g = c.goes_left.ensures.0 c.if-goes_left.true in
    stood-put-left c.args.base c.args.n c.args.k c.args.limit c.args.t.now _ c.requires.2 c.requires.3 (c.args.base - 1) c.args.c _
    (omega (arith, g)) c.requires.0 c.remove_row.ensures
    (c.set_row.ensures (c.args.base + c.args.n) (omega (arith, g, c.requires.0)) (omega (arith, c.remove_row.ensures.length, c.requires.2, c.requires.3)))

pub insert_row-requires : goal.insert_row-requires
insert_row-requires c =
    (omega (arith, c.requires.0), omega (arith, c.goes_left.ensures.1 c.if-goes_left.false, c.requires.3))

pub returns : goal.returns
returns c =
    stood-put-right
    c.args.base
    c.args.n
    c.args.k
    c.args.limit
    c.args.t.now
    _
    c.requires.2
    c.requires.3
    c.args.c
    c.requires.0
    (c.goes_left.ensures.1 c.if-goes_left.false)
    c.insert_row.ensures
