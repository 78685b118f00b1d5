-- `mark` writes two numbers into the row that the search found; where it found none, the table is as it was.
use mathlib.Core.Path.{sym, subst}
use Prim.Native.Nat.{◌+◌}
use lib.ListN.{drop}
use Rattle.json_strings.specs.Decoded.{decoded}
use Rattle.row_live.specs.Live.{Table}
use Rattle.row_live.proofs.Becoming.{onward, held-onward, place-onward, became-marked, became-unmarked}
use native.Mathlib.Omega.{arith}
use Rattle.row_live.proofs.mark.Goals as goal

pub find-requires : goal.find-requires
find-requires c =
    (subst (Table _ _) (sym (onward c.args.base c.args.t.now)) c.requires.0, c.requires.1)

pub overflow_add-at : goal.overflow_add-at
overflow_add-at c =
    let f = held-onward c.args.src.now (decoded (drop c.args.path c.args.src.now)) c.args.base c.args.n c.in-Ok.k c.args.t.now c.in-Ok.is c.find.ensures in
    omega (arith, f.0, c.requires.2, c.ranges)

pub row_at-was-requires : goal.row_at-was-requires
row_at-was-requires c =
    let f = held-onward c.args.src.now (decoded (drop c.args.path c.args.src.now)) c.args.base c.args.n c.in-Ok.k c.args.t.now c.in-Ok.is c.find.ensures in
    omega (arith, f.0, c.requires.2)

pub set_row-requires : goal.set_row-requires
set_row-requires c =
    let f = held-onward c.args.src.now (decoded (drop c.args.path c.args.src.now)) c.args.base c.args.n c.in-Ok.k c.args.t.now c.in-Ok.is c.find.ensures in
    omega (arith, f.0, c.requires.2)

pub returns-in-Ok : goal.returns-in-Ok
returns-in-Ok c limit l room =
    let f = held-onward c.args.src.now (decoded (drop c.args.path c.args.src.now)) c.args.base c.args.n c.in-Ok.k c.args.t.now c.in-Ok.is c.find.ensures in
    became-marked c.args.base c.args.n limit c.requires.0 room _ c.args.skips c.args.retry _ c.row_at-was.result l f
    (c.row_at-was.ensures (c.args.base + c.args.n) (omega (arith, f.0)))
    (c.set_row.ensures (c.args.base + c.args.n) (omega (arith, f.0)) c.requires.2)

pub returns-in-Err : goal.returns-in-Err
returns-in-Err c limit l room =
    became-unmarked c.args.base c.args.n limit c.requires.0 room _ c.args.skips c.args.retry _ l
    (place-onward c.args.src.now (decoded (drop c.args.path c.args.src.now)) c.args.base c.args.n c.in-Err.field-0 c.args.t.now c.in-Err.is c.find.ensures)
