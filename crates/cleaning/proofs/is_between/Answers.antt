-- `is_between` meets its contract.
use Rattle.cleaning.proofs.Ageing.{between-behind, between-zero}
use Rattle.cleaning.proofs.is_between.Goals as goal

pub returns-then-w-gt0 : goal.returns-then-w-gt0
returns-then-w-gt0 c =
    between-behind c.args.w.0 c.args.c.0 c.if-w-gt0.true

pub returns : goal.returns
returns c =
    between-zero c.args.w.0 c.args.c.0 c.if-w-gt0.false
