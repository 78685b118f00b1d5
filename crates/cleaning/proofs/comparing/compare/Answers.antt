-- `compare` meets its contract: version 0, the checkpoint and the way, in the paper's order.
use native.Mathlib.Omega.{arith}
use Rattle.std.proofs.lemmas.Result.{err_from_is_err_and}
use Rattle.rules.specs.Live.{most_live}
use Rattle.log_history.proofs.Reaching.{bundle-places}
use Rattle.log_history.proofs.Walking.{left-same}
use Rattle.cleaning.proofs.Weighing.{compare-zero, compare-refused, compare-carries, compare-done}
use Rattle.cleaning.proofs.comparing.compare.Goals as goal

pub read_file-requires : goal.read_file-requires
unfolding most_live
read_file-requires c =
    let d = c.in_ok-z.ensures in
    (c.nothing_live-empty.ensures.1 _ _ _ (d.2 _ _ (bundle-places _ c.requires.0) (omega arith) c.requires.4), c.requires.2)

pub compare_with-requires : goal.compare_with-requires
unfolding most_live
compare_with-requires c =
    let d = c.in_ok-z.ensures in (
      c.requires.0,
      d.2 _ _ (bundle-places _ c.requires.0) (omega arith) c.requires.5,
      c.requires.3,
      compare-carries c.args.src.now c.args.zero c.args.k c.args.start c.args.c.0 c.in_ok-z.z d c.nothing_live-empty.result c.nothing_live-empty.ensures
          c.args.one.now _ c.args.two.now
          c.read_file.result c.read_file.ensures c.in_ok-mine.mine c.in_ok-mine.was,
    )

pub returns : goal.returns
unfolding most_live
returns c =
    let d = c.in_ok-z.ensures in
    compare-done c.args.src.now c.args.zero c.args.k c.args.start c.args.c.0 c.in_ok-z.z d c.nothing_live-empty.result c.nothing_live-empty.ensures
    c.args.one.now _ c.args.two.now
    c.read_file.result c.read_file.ensures c.in_ok-mine.mine c.in_ok-mine.was _ c.compare_with.result c.compare_with.ensures

pub returns-in_err-mine : goal.returns-in_err-mine
unfolding most_live
returns-in_err-mine c =
    let p = err_from_is_err_and c.from_residual-in_err-mine.result c.from_residual-in_err-mine.ensures.1 in
    let d = c.in_ok-z.ensures in
    let r = compare-refused c.args.src.now c.args.zero c.args.k c.args.start c.args.c.0 c.in_ok-z.z d c.nothing_live-empty.result
    c.nothing_live-empty.ensures c.args.one.now _ c.args.two.now
    c.read_file.result c.read_file.ensures _ c.in_err-mine.was in
    rw (p.1, p.2) (r.0, r.1, left-same)

pub returns-in_err-z : goal.returns-in_err-z
unfolding most_live
returns-in_err-z c =
    let p = err_from_is_err_and c.from_residual.result c.from_residual.ensures.1 in
    rw (p.1, p.2)
    (compare-zero c.args.src.now c.args.zero c.args.k c.args.start c.args.c.0 _ c.read_zero.result c.in_err-z.was c.read_zero.ensures, left-same, left-same)
