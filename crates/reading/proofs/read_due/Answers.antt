-- `read_due`: all files of the latest version, and then those of them that are due.
use Rattle.std.proofs.lemmas.Result.{err_from_is_err_and}
use Rattle.rules.specs.Bytes.{ascii}
use Rattle.reading.proofs.DueRows.{due-room, due-zeros, answer-due, due-refused}
use borrow.Author.Rules.{rules}
use native.Mathlib.Omega.{arith}
use Rattle.reading.proofs.read_due.Goals as goal

pub pick_due-due-requires : goal.pick_due-due-requires
unfolding ascii
pick_due-due-requires c = due-room _ _ _ _ c.in_ok-all.ensures (search rules)

pub overflow_mul-end : goal.overflow_mul-end
unfolding ascii
overflow_mul-end c =
    let z = due-zeros _ _ _ _ c.in_ok-all.ensures (search rules) _ _ _ c.pick_due-due.ensures in
    omega (arith, z.0)

pub zero-requires : goal.zero-requires
unfolding ascii
zero-requires c = due-zeros _ _ _ _ c.in_ok-all.ensures (search rules) _ _ _ c.pick_due-due.ensures

pub returns : goal.returns
unfolding ascii
returns c = answer-due _ _ _ _ c.in_ok-all.ensures (search rules) _ _ _ c.pick_due-due.ensures _ c.zero.ensures

pub returns-in_err-all : goal.returns-in_err-all
unfolding ascii
returns-in_err-all c =
    let p = err_from_is_err_and c.from_residual.result c.from_residual.ensures.1 in
    rw (p.1, p.2) (due-refused _ _ _ _ _ c.in_err-all.ensures)
