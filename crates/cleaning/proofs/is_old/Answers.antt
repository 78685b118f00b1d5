-- `is_old` meets its contract.
use Rattle.cleaning.proofs.Ageing.{old-later, old-before}
use Rattle.cleaning.proofs.is_old.Goals as goal

pub returns-then-today-modified : goal.returns-then-today-modified
returns-then-today-modified c =
    old-later c.args.today.0 c.args.retention.0 c.args.modified.0 c.if-today-modified.true

pub returns : goal.returns
returns c =
    old-before c.args.today.0 c.args.retention.0 c.args.modified.0 c.if-today-modified.false
