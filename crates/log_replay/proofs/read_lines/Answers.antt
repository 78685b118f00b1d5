-- `read_lines`: each turn reads the line that begins at `at`.
use Rattle.facts.specs.Parts.{part}
use Rattle.facts.proofs.Parts.{length_part}
use Rattle.std.proofs.lemmas.Result.{err_from_is_err_and}
use Rattle.log_replay.proofs.Lying.{lies-part}
use Rattle.log_replay.proofs.Within.{within-start, within-next, within-refused, within-empty, within-met, within_none}
use native.Mathlib.Omega.{arith}
use Rattle.log_replay.proofs.read_lines.Goals as goal
use Rattle.log_replay.proofs.read_lines.Goals.{then-at-end+in_ok-state, else-at-end}

pub loop-at-init : goal.loop-at-init
loop-at-init c = within-start _ _ _ _ c.requires.1 _ _ c.requires.0

pub apply-requires : goal.apply-requires
unfolding part
apply-requires c =
    let body = c.args.body.now in (
      c.loop-at.invariant.carried.carries,
      lies-part c.requires.1 _ _ (omega arith) c.line_end-end.ensures.within,
      omega (arith, c.if-at-end.true, length_part body c.loop-at.at c.line_end-end.result c.line_end-end.ensures.within),
    )

pub returns-in_err-state : goal.returns-in_err-state
unfolding part
returns-in_err-state c =
    let e = err_from_is_err_and c.from_residual.result c.from_residual.ensures.1 in
    rw (e.1, e.2)
    (within-refused _ _ _ _ c.requires.1 _ _ _ _ _ _ _ c.loop-at.invariant _ c.loop-at-test.true c.line_end-end.ensures c.if-at-end.true _ _
    c.in_err-state.ensures)

pub overflow_add-line : goal.overflow_add-line
overflow_add-line c = omega (arith, c.loop-at.invariant.number)

pub loop-at-preserved : goal.loop-at-preserved
unfolding part
loop-at-preserved c =
    elim c.if-at-end.branch [
      | then-at-end+in_ok-state w ↦
          rw (w.t-is, w.state-is, w.met-is)
          (within-next _ _ _ _ c.requires.1 _ _ _ _ _ _ _ c.loop-at.invariant _ c.loop-at-test.true c.line_end-end.ensures w.if-at-end.true _ _
          w.in_ok-state.ensures)
      | else-at-end w ↦
          rw (w.t-is, w.state-is, w.met-is)
          (within-empty _ _ _ _ c.requires.1 _ _ _ _ _ _ _ c.loop-at.invariant _ c.loop-at-test.true c.line_end-end.ensures w.if-at-end.false)
    ]

pub returns-then-met : goal.returns-then-met
returns-then-met c = within-met _ _ _ _ c.requires.1 _ _ _ _ _ _ _ c.loop-at.invariant c.loop-at-test.false c.if-met.true

pub returns : goal.returns
returns c = within_none _ _ _ _ c.requires.1 _ _ _ _ _ _ _ c.loop-at.invariant c.loop-at-test.false c.if-met.false
