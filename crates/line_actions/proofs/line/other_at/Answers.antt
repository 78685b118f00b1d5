-- `other_at` meets its contract. Any value, and the end of the line.
use mathlib.Core.Path.{sym, ◌∙◌}
use Prim.Native.Nat.{◌+◌, ◌≤◌}
use Rattle.rules.specs.Actions.{in_line}
use Rattle.line_actions.proofs.Lines.{begun-no-value, begun-unended, begun-other}
use native.Mathlib.Omega.{arith}
use Rattle.line_actions.proofs.line.other_at.Goals as goal

pub returns-in_err-e : goal.returns-in_err-e
unfolding in_line
returns-in_err-e c = rw c.from_residual.ensures (begun-no-value c.args.line.now c.args.k c.args.v c.requires.1 c.in_err-e.ensures)

pub returns-then-line_ends : goal.returns-then-line_ends
unfolding in_line
returns-then-line_ends c =
    let q = c.in_ok-e.ensures in
    let l : c.args.v + 1 ≤ c.in_ok-e.e = q.1 in
    begun-other c.args.line.now c.args.k c.args.v c.requires.1 c.in_ok-e.e (omega arith) q.2 q.0 (sym c.line_ends.ensures ∙ c.if-line_ends.true) c.requires.0

pub returns : goal.returns
unfolding in_line
returns c =
    let q = c.in_ok-e.ensures in
    let l : c.args.v + 1 ≤ c.in_ok-e.e = q.1 in
    begun-unended c.args.line.now c.args.k c.args.v c.requires.1 c.in_ok-e.e (omega arith) q.2 q.0 (sym c.line_ends.ensures ∙ c.if-line_ends.false)
