-- `judge` meets its contract: what the line states, or the unstated protocol where it states none.
use mathlib.Core.Path.{sym, subst}
use Rattle.facts.specs.Parts.{part}
use Rattle.rules.specs.Actions.{Protocol}
use Rattle.log_replay.specs.Views.{line_at}
use Rattle.log_gate.specs.Judged.{VerdictIs}
use Rattle.log_gate.proofs.Judging.{stated-here, judged-none}
use Rattle.log_gate.proofs.judge.Goals as goal

pub returns-in-Some : goal.returns-in-Some
unfolding line_at part
returns-in-Some c =
    let x = c.in-Some.ensures in
    subst (λ (p : Protocol). VerdictIs p c.judge_stated.result) (sym (stated-here c.args.src.now c.args.at x.1)) (c.judge_stated.ensures _ x.0 x.2)

pub returns-in-None : goal.returns-in-None
unfolding line_at part
returns-in-None c = judged-none c.args.src.now c.args.at c.judge_unstated.result c.judge_unstated.ensures c.in-None.ensures
