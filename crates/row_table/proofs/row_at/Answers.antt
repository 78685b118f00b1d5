-- `row_at` reads the row that its place says: the numbers from k rows on are those of row k.
use mathlib.Core.List.{[]}
use native.Mathlib.Nat.{add-zero}
use lib.Seq.{get_or-drop}
use Rattle.facts.proofs.Rows.{get_d-rows_of}
use Rattle.row_table.specs.Table.{wide, row}
use Rattle.row_table.proofs.row_at.Goals as goal

pub returns : goal.returns
unfolding row
returns c n h =
    rw (get_d-rows_of wide row n c.args.k (row []) c.args.t.now h) (simp (get_or-drop, add-zero))
