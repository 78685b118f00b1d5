-- `pick_due` moves the rows of the due files to the front: each turn passes one row, as `Fronting` says.
use mathlib.Core.Path.{◌≡◌, sym, ◌∙◌}
use Prim.Native.Nat.{ℕ}
use mathlib.Core.List.{List}
use lib.ListN.{length}
use native.Mathlib.Omega.{arith}
use Rattle.row_table.specs.Table.{Room}
use Rattle.query_picking.proofs.Fronting.{fronting-start, fronting-end, fronting-past, fronting-keep}
use Rattle.query_picking.proofs.due.pick_due.Goals as goal
use Rattle.query_picking.proofs.due.pick_due.Goals.{then-is_due, else-is_due}

-- the table has room for its n rows still
room : (n : ℕ) (t now : List ℕ) → Room n t → length now ≡ length t → Room n now
room n t now fits same = omega (arith, fits, same)

pub loop-k-init : goal.loop-k-init
loop-k-init c = fronting-start _ _

pub row_at-c-requires : goal.row_at-c-requires
row_at-c-requires c = omega (arith, room c.args.n c.args.t.now c.loop-k.t c.requires c.loop-k.invariant.length, c.loop-k-test.true)

pub set_row-requires : goal.set_row-requires
set_row-requires c =
    omega (arith, room c.args.n c.args.t.now c.loop-k.t c.requires c.loop-k.invariant.length, c.loop-k-test.true, c.loop-k.invariant.moved.few)

pub overflow_add-m : goal.overflow_add-m
overflow_add-m c =
    omega (arith, c.loop-k-test.true, c.loop-k.invariant.moved.few)

pub loop-k-preserved : goal.loop-k-preserved
loop-k-preserved c =
    let read = c.row_at-c.ensures _ c.loop-k-test.true in
    elim c.if-is_due.branch [
      | then-is_due w ↦
          let written = w.set_row.ensures _ (omega (arith, c.loop-k-test.true, c.loop-k.invariant.moved.few))
          (room c.args.n c.args.t.now c.loop-k.t c.requires c.loop-k.invariant.length) in
          rw (w.t-is, w.m-is) (fronting-keep _ c.loop-k.invariant c.loop-k-test.true read (sym c.is_due.ensures ∙ w.if-is_due.true) written)
      | else-is_due w ↦
          rw (w.t-is, w.m-is) (fronting-past _ c.loop-k.invariant c.loop-k-test.true read (sym c.is_due.ensures ∙ w.if-is_due.false))
    ]

pub shape_of-t : goal.shape_of-t
shape_of-t c = c.loop-k.invariant.length

pub returns : goal.returns
returns c = fronting-end _ c.loop-k.invariant c.loop-k-test.false
