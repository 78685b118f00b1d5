-- `move_picked` moves the rows of the picked files to the front: each turn judges one row, as `Fronting` says.
use mathlib.Core.Path.{◌≡◌, refl, ◌∙◌}
use Prim.Native.Nat.{ℕ}
use mathlib.Core.List.{List}
use lib.ListN.{length}
use native.Mathlib.Omega.{arith}
use Rattle.row_table.specs.Table.{Room}
use Rattle.log_replay.specs.Views.{Stands}
use Rattle.query_comparisons.proofs.Back.{judged-out}
use Rattle.query_picking.proofs.Fronting.{fronting-start, fronting-end, fronting-read, fronting-all, fronting-past, fronting-keep}
use Rattle.query_picking.proofs.Fronting.{ranging-end, ranging-past, ranging-out}
use Rattle.std.proofs.lemmas.Result.{err_from_is_err_and}
use Rattle.query_picking.proofs.Each.{judged-in}
use Rattle.query_picking.proofs.move_picked.Goals as goal
use Rattle.query_picking.proofs.move_picked.Goals.{then-picked, else-picked}

-- the table has room for its n rows still
room : (n : ℕ) (t now : List ℕ) → Room n t → length now ≡ length t → Room n now
room n t now fits same = omega (arith, fits, same)

pub loop-k-init : goal.loop-k-init
loop-k-init c = (fronting-start _ _, refl)

pub row_at-c-requires : goal.row_at-c-requires
row_at-c-requires c = omega (arith, room c.args.n c.args.t.now c.loop-k.t c.requires.0 c.loop-k.invariant.0.length, c.loop-k-test.true)

pub judge_row-requires : goal.judge_row-requires
judge_row-requires c =
    (fronting-all _ c.loop-k.invariant.0 c.loop-k-test.true (c.row_at-c.ensures _ c.loop-k-test.true) (Stands _) c.requires.1, c.requires.2)

pub set_row-requires : goal.set_row-requires
set_row-requires c =
    omega (arith, room c.args.n c.args.t.now c.loop-k.t c.requires.0 c.loop-k.invariant.0.length, c.loop-k-test.true, c.loop-k.invariant.0.moved.few)

pub overflow_add-m : goal.overflow_add-m
overflow_add-m c =
    omega (arith, c.loop-k-test.true, c.loop-k.invariant.0.moved.few)

pub loop-k-preserved : goal.loop-k-preserved
loop-k-preserved c =
    let read = c.row_at-c.ensures _ c.loop-k-test.true in
    let says = judged-in _ _ _ c.in_ok-picked.ensures in
    let ranged = ranging-past _ _ _ _ _ c.loop-k.invariant.1 c.loop-k-test.true (fronting-read _ c.loop-k.invariant.0 c.loop-k-test.true read) says.0 in
    elim c.if-picked.branch [
      | then-picked w ↦
          let written = w.set_row.ensures _ (omega (arith, c.loop-k-test.true, c.loop-k.invariant.0.moved.few))
          (room c.args.n c.args.t.now c.loop-k.t c.requires.0 c.loop-k.invariant.0.length) in
          rw (w.t-is, w.m-is) (fronting-keep _ c.loop-k.invariant.0 c.loop-k-test.true read (says.1 ∙ w.if-picked.true) written, ranged)
      | else-picked w ↦
          rw (w.t-is, w.m-is) (fronting-past _ c.loop-k.invariant.0 c.loop-k-test.true read (says.1 ∙ w.if-picked.false), ranged)
    ]

pub shape_of-t-in_err-picked : goal.shape_of-t-in_err-picked
shape_of-t-in_err-picked c = c.loop-k.invariant.0.length

pub returns-in_err-picked : goal.returns-in_err-picked
returns-in_err-picked c =
    let p = err_from_is_err_and c.from_residual.result c.from_residual.ensures.1 in
    let says = judged-out _ _ c.in_err-picked.ensures in
    rw p.1 (
      ranging-out _ _ _ _ _ c.loop-k.invariant.1 c.loop-k-test.true (fronting-read _ c.loop-k.invariant.0 c.loop-k-test.true
          (c.row_at-c.ensures _ c.loop-k-test.true)) says,
      c.loop-k.invariant.0.rest,
      c.loop-k.invariant.0.length,
    )

pub shape_of-t : goal.shape_of-t
shape_of-t c = c.loop-k.invariant.0.length

pub returns : goal.returns
returns c =
    (ranging-end _ _ _ _ _ c.loop-k.invariant.1 c.loop-k-test.false, fronting-end _ c.loop-k.invariant.0 c.loop-k-test.false)
