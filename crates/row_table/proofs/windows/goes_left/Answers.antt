-- `goes_left` meets its contract, by its tests.
use mathlib.Core.Path.{sym}
use mathlib.Core.Bool.{true≢false}
use native.Mathlib.Omega.{arith}
use Rattle.row_table.proofs.windows.goes_left.Goals as goal

pub returns-then-base-eq0 : goal.returns-then-base-eq0
returns-then-base-eq0 c = ((λ e. absurd (true≢false (sym e))), (λ _. omega (arith, c.if-base-eq0.true, c.requires.1)))

pub returns : goal.returns
returns c = ((λ _. omega (arith, c.if-base-eq0.false)), (λ e. absurd (true≢false e)))
