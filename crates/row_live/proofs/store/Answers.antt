-- `store` writes the row over the one with the same path, or puts it in where the search ended.
use mathlib.Core.Path.{sym, subst}
use Prim.Native.Nat.{◌+◌}
use Rattle.facts.proofs.Rows.{length-rows_of}
use Rattle.row_table.specs.Table.{wide, row, behind}
use Rattle.row_live.specs.Live.{key, Table}
use Rattle.row_live.proofs.Becoming.{onward, held-onward, place-onward, became-over, became-more}
use native.Mathlib.Omega.{arith}
use Rattle.row_live.proofs.store.Goals as goal

pub find-requires : goal.find-requires
find-requires c =
    (subst (Table _ _) (sym (onward c.args.base c.args.t.now)) c.requires.0, c.requires.1)

pub overflow_add-base : goal.overflow_add-base
overflow_add-base c =
    let f = held-onward c.args.src.now (key c.args.src.now c.args.c) c.args.base c.args.n c.in-Ok.k c.args.t.now c.in-Ok.is c.find.ensures in
    omega (arith, f.0, c.requires.3, c.requires.4, c.ranges)

pub set_row-requires : goal.set_row-requires
set_row-requires c =
    let f = held-onward c.args.src.now (key c.args.src.now c.args.c) c.args.base c.args.n c.in-Ok.k c.args.t.now c.in-Ok.is c.find.ensures in
    omega (arith, f.0, c.requires.3, c.requires.4)

pub put_in-before-requires : goal.put_in-before-requires
put_in-before-requires c =
    let g = place-onward c.args.src.now (key c.args.src.now c.args.c) c.args.base c.args.n c.in-Err.k c.args.t.now c.in-Err.is c.find.ensures in
    (omega (arith, g.hi-le, length-rows_of wide row c.args.n (behind c.args.base c.args.t.now)), c.requires.2, c.requires.3, c.requires.4)

pub returns-in-Ok : goal.returns-in-Ok
returns-in-Ok c =
    let f = held-onward c.args.src.now (key c.args.src.now c.args.c) c.args.base c.args.n c.in-Ok.k c.args.t.now c.in-Ok.is c.find.ensures in
    became-over
    c.args.base
    c.args.n
    c.args.limit
    c.requires.0
    c.requires.4
    c.args.c
    c.requires.1
    _
    c.requires.3
    f
    (c.set_row.ensures (c.args.base + c.args.n) (omega (arith, f.0)) (omega (arith, c.requires.3, c.requires.4)))

pub returns-in-Err : goal.returns-in-Err
returns-in-Err c =
    let g = place-onward c.args.src.now (key c.args.src.now c.args.c) c.args.base c.args.n c.in-Err.k c.args.t.now c.in-Err.is c.find.ensures in
    became-more
    c.args.base
    c.args.n
    c.args.limit
    c.requires.0
    c.requires.4
    c.args.c
    c.requires.1
    _ _
    g
    c.put_in-before.ensures
