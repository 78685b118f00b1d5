-- `whole_digits`: each answer by what the digits stand for.
use mathlib.Core.Path.{sym, ap, ◌∙◌}
use native.Mathlib.Omega.{arith}
use Rattle.rules.specs.Numbers.{most}
use Rattle.bytes_values.specs.Readings.{in_bounds}
use Rattle.bytes_values.proofs.Wholes.{bounds-in, bounds-out}
use Rattle.bytes_values.proofs.whole_digits.Goals as goal

pub returns-in_err-n : goal.returns-in_err-n
unfolding in_bounds
returns-in_err-n c = rw c.from_residual.ensures (ap in_bounds c.in_err-n.ensures)

pub returns-then-n-gt-MOST : goal.returns-then-n-gt-MOST
unfolding most
returns-then-n-gt-MOST c = sym (ap in_bounds (sym c.in_ok-n.ensures) ∙ bounds-out c.in_ok-n.n (omega arith))

pub returns : goal.returns
unfolding most
returns c = sym (ap in_bounds (sym c.in_ok-n.ensures) ∙ bounds-in c.in_ok-n.n (omega arith))
