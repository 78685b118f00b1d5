-- `judge_next` meets its contract: once a condition is unmet, only what is out of range is told of those behind it.
use mathlib.Core.Path.{ap}
use Rattle.rules.specs.Picking.{value_at}
use Rattle.rules.proofs.InRange.{out_of-text}
use Rattle.query_conditions.specs.Words.{as_is}
use Rattle.query_conditions.specs.Conditions.{condition_of}
use Rattle.std.proofs.lemmas.Result.{err_from_is_err_and}
use Rattle.query_picking.proofs.Each.{judged-in, next-met, next-unmet, next-out}
use Rattle.query_picking.proofs.judge_next.Goals as goal

pub returns-then-met : goal.returns-then-met
returns-then-met c = λ ps w. next-met _ _ c.if-met.true (c.judge_one.ensures ps w)

pub returns-in-Text : goal.returns-in-Text
unfolding as_is
returns-in-Text c =
    let d = condition_of c.args.q.now c.args.c in
    λ ps w. next-unmet _ _ c.if-met.false (out_of-text d (value_at d.column ps) (ap as_is c.in-Text.is))

pub returns-in_err-judge_one-in-Number : goal.returns-in_err-judge_one-in-Number
returns-in_err-judge_one-in-Number c =
    let p = err_from_is_err_and c.from_residual.result c.from_residual.ensures.1 in
    rw (p.1, p.2) (λ ps w. next-out _ _ _ (c.in_err-judge_one-in-Number.ensures ps w))

pub returns-in_ok-judge_one-in-Number : goal.returns-in_ok-judge_one-in-Number
returns-in_ok-judge_one-in-Number c =
    λ ps w. next-unmet _ _ c.if-met.false (judged-in _ _ _ (c.in_ok-judge_one-in-Number.ensures ps w)).0
