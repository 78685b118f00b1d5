-- `is_due` meets its contract: the count first, then the time.
use mathlib.Core.Path.{sym, ap}
use mathlib.Core.Bool.{Bool, ◌&&◌}
use lib.Dec.{leb}
use borrow.Author.Tests.{lt-ltb, le-ltb}
use Rattle.rules.specs.Due.{is_due}
use Rattle.query_picking.proofs.due.is_due.Goals as goal

pub returns-then-c-gt0 : goal.returns-then-c-gt0
unfolding is_due
returns-then-c-gt0 c =
    sym (ap (λ (b : Bool). b && leb c.args.c.retry c.args.time) (lt-ltb 0 c.args.c.skips c.if-c-gt0.true))

pub returns : goal.returns
unfolding is_due
returns c =
    sym (ap (λ (b : Bool). b && leb c.args.c.retry c.args.time) (le-ltb 0 c.args.c.skips c.if-c-gt0.false))
