-- `set_row` changes one row: its six stores are the row's numbers written where it lies.
use Prim.Native.Nat.{◌*◌}
use mathlib.Core.Path.{sym, subst}
use mathlib.Core.List.{[], ◌∷◌}
use lib.ListN.{set}
use Rattle.facts.specs.Moves.{stores}
use Rattle.facts.proofs.Moves.{put_at-stores}
use Rattle.row_table.specs.Table.{wide, cells, rows, Changed}
use lib.ListN.{length-set}
use Rattle.row_table.proofs.Changes.{changed_row}
use native.Mathlib.Omega.{arith}
use Rattle.row_table.proofs.set_row.Goals as goal

pub bounds-t-at-2 : goal.bounds-t-at-2
bounds-t-at-2 c = simp length-set (omega arith)

pub bounds-t-at-3 : goal.bounds-t-at-3
bounds-t-at-3 c = simp length-set (omega arith)

pub bounds-t-at-4 : goal.bounds-t-at-4
bounds-t-at-4 c = simp length-set (omega arith)

pub bounds-t-at-5 : goal.bounds-t-at-5
bounds-t-at-5 c = simp length-set (omega arith)

pub bounds-t-at-6 : goal.bounds-t-at-6
bounds-t-at-6 c = simp length-set (omega arith)

pub returns : goal.returns
unfolding cells stores
returns c n h l =
    subst (Changed n (set (rows n c.args.t.now) c.args.k c.args.c) n c.args.t.now)
    (sym (put_at-stores (c.args.k * wide) c.args.c.head (c.args.c.len ∷ c.args.c.size ∷ c.args.c.time ∷ c.args.c.skips ∷ c.args.c.retry ∷ [])
    c.args.t.now (omega arith)))
    (changed_row n c.args.k c.args.c c.args.t.now h l)
