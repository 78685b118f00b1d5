-- `zero_lines`: each turn adds the line that begins at `at` to what was said.
use Rattle.facts.specs.Parts.{part}
use Rattle.facts.proofs.Parts.{length_part}
use Rattle.std.proofs.lemmas.Result.{err_from_is_err_and}
use Rattle.log_replay.proofs.Lying.{lies-part}
use Rattle.log_replay.proofs.Within.{tells-start, tells-next, tells-refused, tells-empty, tells_none, tells_all}
use native.Mathlib.Omega.{arith}
use Rattle.log_replay.proofs.begin.zero_lines.Goals as goal
use Rattle.log_replay.proofs.begin.zero_lines.Goals.{then-at-end+in_ok-said, else-at-end}

pub loop-at-init : goal.loop-at-init
loop-at-init c = tells-start _ _ c.requires

pub say-requires : goal.say-requires
unfolding part
say-requires c =
    let body = c.args.body.now in (
      c.loop-at.invariant.stated,
      lies-part c.requires _ _ (omega arith) c.line_end-end.ensures.within,
      omega (arith, c.if-at-end.true, length_part body c.loop-at.at c.line_end-end.result c.line_end-end.ensures.within),
    )

pub returns-in_err-said : goal.returns-in_err-said
unfolding part
returns-in_err-said c =
    let e = err_from_is_err_and c.from_residual.result c.from_residual.ensures.1 in
    rw (e.1, e.2)
    (tells-refused _ _ c.requires _ _ _ c.loop-at.invariant _ c.loop-at-test.true c.line_end-end.ensures c.if-at-end.true _ c.in_err-said.ensures)

pub loop-at-preserved : goal.loop-at-preserved
unfolding part
loop-at-preserved c =
    elim c.if-at-end.branch [
      | then-at-end+in_ok-said w ↦
          rw w.said-is
          (tells-next _ _ c.requires _ _ _ c.loop-at.invariant _ c.loop-at-test.true c.line_end-end.ensures w.if-at-end.true _ w.in_ok-said.ensures)
      | else-at-end w ↦
          rw w.said-is (tells-empty _ _ c.requires _ _ _ c.loop-at.invariant _ c.loop-at-test.true c.line_end-end.ensures w.if-at-end.false)
    ]

pub returns-then-said-eq0 : goal.returns-then-said-eq0
returns-then-said-eq0 c = tells_none _ _ c.requires _ _ _ c.loop-at.invariant c.loop-at-test.false c.if-said-eq0.true

pub returns : goal.returns
returns c = tells_all _ _ c.requires _ _ _ c.loop-at.invariant c.loop-at-test.false c.if-said-eq0.false
