-- `take_away` meets its contract: on the right a row taken out, on the left one put in before those that stay.
use Rattle.row_table.proofs.Standing.{stood-out-left, stood-out-right}
use Rattle.row_table.proofs.windows.take_away.Goals as goal

pub returns-then-n-k : goal.returns-then-n-k
returns-then-n-k c =
    stood-out-right c.args.base c.args.n c.args.k c.args.limit c.args.t.now _ c.requires.1 c.requires.2 c.requires.0 c.remove_row.ensures

pub returns : goal.returns
returns c =
    stood-out-left
    c.args.base
    c.args.n
    c.args.k
    c.args.limit
    c.args.t.now
    _
    c.requires.1
    c.requires.2
    c.row_at-first.result
    c.requires.0
    c.insert_row.ensures
