-- `copy_row` meets its contract: the row that is read is the one that is written.
use mathlib.Core.Path.{ap}
use lib.ListN.{set}
use Rattle.row_table.specs.Table.{rows}
use Rattle.row_table.proofs.Changes.{changed-as}
use Rattle.row_table.proofs.copy_row.Goals as goal

pub returns : goal.returns
returns c n i k room =
    changed-as (ap (set (rows n c.args.t.now) c.args.to) (c.row_at-c.ensures n i)) (c.set_row.ensures n k room)
