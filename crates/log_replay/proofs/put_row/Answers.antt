-- `put_row` stores the row below the limit, and at it only over the row with the same path.
use mathlib.Core.Path.{sym, subst}
use Prim.Native.Nat.{◌+◌}
use Rattle.row_live.specs.Live.{key, Table}
use Rattle.row_live.proofs.Becoming.{onward, held-onward, place-onward, became-over}
use Rattle.log_replay.proofs.Putting.{put_full}
use native.Mathlib.Omega.{arith}
use Rattle.log_replay.proofs.put_row.Goals as goal

pub find-requires : goal.find-requires
find-requires c = (subst (Table _ _) (sym (onward c.args.base c.args.t.now)) c.requires.0, c.requires.1)

pub set_row-requires : goal.set_row-requires
set_row-requires c =
    let f = held-onward c.args.src.now (key c.args.src.now c.args.c) c.args.base c.args.n c.in-Ok.k c.args.t.now c.in-Ok.is c.find.ensures in
    omega (arith, f.0, c.requires.2, c.requires.3)

pub returns-in-Ok : goal.returns-in-Ok
returns-in-Ok c =
    let f = held-onward c.args.src.now (key c.args.src.now c.args.c) c.args.base c.args.n c.in-Ok.k c.args.t.now c.in-Ok.is c.find.ensures in
    became-over c.args.base c.args.n c.args.limit c.requires.0 c.requires.3 c.args.c c.requires.1 _ c.requires.2 f
    (c.set_row.ensures (c.args.base + c.args.n) (omega (arith, f.0)) (omega (arith, c.requires.2, c.requires.3)))

pub returns-in-Err : goal.returns-in-Err
returns-in-Err c =
    put_full c.args.src.now c.args.c c.args.base c.args.n c.args.limit c.args.t.now c.requires.2 c.if-n-limit.false _
    (place-onward c.args.src.now (key c.args.src.now c.args.c) c.args.base c.args.n c.in-Err.field-0 c.args.t.now c.in-Err.is c.find.ensures)
