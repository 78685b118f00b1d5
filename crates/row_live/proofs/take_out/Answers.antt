-- `take_out` takes the row out that the search found; where it found none, the table is as it was.
use mathlib.Core.Path.{sym, subst}
use lib.ListN.{drop}
use Rattle.json_strings.specs.Decoded.{decoded}
use Rattle.row_live.specs.Live.{Table}
use Rattle.row_live.proofs.Becoming.{onward, held-onward, place-onward, became-less, became-same}
use native.Mathlib.Omega.{arith}
use Rattle.row_live.proofs.take_out.Goals as goal

pub find-requires : goal.find-requires
find-requires c =
    (subst (Table _ _) (sym (onward c.args.base c.args.t.now)) c.requires.0, c.requires.1)

pub take_away-before-requires : goal.take_away-before-requires
take_away-before-requires c =
    let f = held-onward c.args.src.now (decoded (drop c.args.path c.args.src.now)) c.args.base c.args.n c.in-Ok.k c.args.t.now c.in-Ok.is c.find.ensures in
    (f.0, c.requires.2, c.requires.3)

pub overflow_sub-result : goal.overflow_sub-result
overflow_sub-result c =
    let f = held-onward c.args.src.now (decoded (drop c.args.path c.args.src.now)) c.args.base c.args.n c.in-Ok.k c.args.t.now c.in-Ok.is c.find.ensures in
    omega (arith, f.0)

pub returns-in-Ok : goal.returns-in-Ok
returns-in-Ok c =
    let f = held-onward c.args.src.now (decoded (drop c.args.path c.args.src.now)) c.args.base c.args.n c.in-Ok.k c.args.t.now c.in-Ok.is c.find.ensures in
    became-less c.args.base c.args.n c.args.limit c.requires.0 c.requires.3 _ _ _ f c.take_away-before.ensures

pub returns-in-Err : goal.returns-in-Err
returns-in-Err c =
    became-same c.args.base c.args.n c.args.limit c.requires.0 c.requires.3 _ _ c.requires.2
    (place-onward c.args.src.now (decoded (drop c.args.path c.args.src.now)) c.args.base c.args.n c.in-Err.field-0 c.args.t.now c.in-Err.is c.find.ensures)
