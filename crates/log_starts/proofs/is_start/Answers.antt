-- Each turn judges a line, as `Judging` says.
use Rattle.facts.specs.Parts.{part}
use Rattle.log_starts.proofs.Judging.{judging-start, judging-end, judging-empty, judging-bad, judging-more}
use native.Mathlib.Omega.{arith}
use Rattle.log_starts.proofs.is_start.Goals as goal
use Rattle.log_starts.proofs.is_start.Goals.{then-from-end+in-Some, else-from-end}

pub loop-from-init : goal.loop-from-init
loop-from-init c = judging-start _

pub returns-in-None : goal.returns-in-None
unfolding part
returns-in-None c =
    judging-bad c.args.body.now c.loop-from.from c.loop-from.told c.loop-from.invariant c.line_end-end.result (omega arith) c.line_end-end.ensures
    c.if-from-end.true c.in-None.ensures

pub loop-from-preserved : goal.loop-from-preserved
unfolding part
loop-from-preserved c =
    elim c.if-from-end.branch [
      | then-from-end+in-Some w ↦
          rw w.told-is
          (judging-more c.args.body.now c.loop-from.from c.loop-from.told c.loop-from.invariant c.line_end-end.result (omega arith) c.line_end-end.ensures
          w.if-from-end.true w.in-Some.table w.in-Some.ensures)
      | else-from-end w ↦
          rw w.told-is
          (judging-empty c.args.body.now c.loop-from.from c.loop-from.told c.loop-from.invariant c.line_end-end.result (omega arith) c.line_end-end.ensures
          (omega arith))
    ]

pub returns : goal.returns
returns c =
    judging-end c.args.body.now c.loop-from.from c.loop-from.told c.loop-from.invariant (omega arith)
