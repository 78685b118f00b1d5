-- `cap`: each answer by its test.
use mathlib.Core.Path.{sym, ap}
use mathlib.Core.Bool.{Bool}
use borrow.Author.Tests.{le-leb, lt-leb}
use Rattle.rules.specs.Numbers.{most}
use Rattle.query_numbers.specs.Capping.{capped, capped_is}
use Rattle.query_numbers.proofs.cap.Goals as goal

pub returns-then-n-gt-LOWEST_SIZE : goal.returns-then-n-gt-LOWEST_SIZE
unfolding capped_is capped most
returns-then-n-gt-LOWEST_SIZE c = ap (λ (t : Bool). capped t c.args.n) (sym (lt-leb _ _ c.if-n-gt-LOWEST_SIZE.true))

pub returns : goal.returns
unfolding capped_is capped most
returns c = ap (λ (t : Bool). capped t c.args.n) (sym (le-leb _ _ c.if-n-gt-LOWEST_SIZE.false))
