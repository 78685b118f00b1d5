-- `follow`: from version 0 or from a checkpoint, as `Reaching` says.
use Rattle.std.proofs.Common.{rules}
use Rattle.std.proofs.lemmas.Result.{err_from_is_err_and}
use Rattle.log_history.proofs.Reaching.{reaches-checkpoint, follow-zero, follow-checkpoint, follow-refused}
use Rattle.log_history.proofs.history.follow.Goals as goal

pub read_file-requires : goal.read_file-requires
read_file-requires c =
    let renewed = c.nothing_live-empty.ensures.1 c.args.src.now c.args.limit c.args.t.now c.requires.1 in
    (search (rules, renewed), (reaches-checkpoint c.args.src.now c.args.v.0 c.args.start c.in-Checkpoint.is c.requires.2).0)

pub returns-in_err-st-in-Checkpoint : goal.returns-in_err-st-in-Checkpoint
returns-in_err-st-in-Checkpoint c =
    let p = err_from_is_err_and c.from_residual.result c.from_residual.ensures.1 in
    rw (p.1, p.2)
    (follow-refused c.args.src.now c.args.limit c.args.v.0 c.args.z c.args.start c.args.t.now c.read_file.new.t c.in-Checkpoint.is
    c.nothing_live-empty.result c.nothing_live-empty.ensures _ c.in_err-st-in-Checkpoint.ensures)

pub returns-in-Zero : goal.returns-in-Zero
returns-in-Zero c =
    follow-zero c.args.src.now c.args.limit c.args.v.0 c.args.z c.args.start c.args.t.now c.onward.new.t c.onward.result c.in-Zero.is c.onward.ensures

pub returns-in_ok-st-in-Checkpoint : goal.returns-in_ok-st-in-Checkpoint
returns-in_ok-st-in-Checkpoint c =
    follow-checkpoint c.args.src.now c.args.limit c.args.v.0 c.args.z c.args.start c.args.t.now c.onward-in-Checkpoint.new.t c.in-Checkpoint.is
    c.nothing_live-empty.result c.nothing_live-empty.ensures c.read_file.new.t c.onward-in-Checkpoint.result c.in_ok-st-in-Checkpoint.ensures
    c.onward-in-Checkpoint.ensures
