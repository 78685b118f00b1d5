-- `name_old` meets its contract: what is named of the files that are passed stands in front of the room.
use borrow.Author.Rules.{rules}
use native.Mathlib.Omega.{arith}
use mathlib.Core.Path.{sym, ◌∙◌}
use Prim.Native.Nat.{◌≤◌, ◌<◌}
use lib.ListN.{length}
use Rattle.file_bundle.specs.Files.{files_in}
use Rattle.cleaning.proofs.Going.{files-few, going_start, going_end, going-place, going-named, going-past}
use Rattle.cleaning.proofs.name_old.Goals as goal
use Rattle.cleaning.proofs.name_old.Goals.{then-may_go, else-may_go}

pub count-count-requires : goal.count-count-requires
count-count-requires c = c.requires.0

pub loop-k-init : goal.loop-k-init
loop-k-init c =
    going_start c.args.c.0 c.args.today.0 c.args.retention.0 c.args.src.now c.args.names.now

pub may_go-requires : goal.may_go-requires
may_go-requires c = omega (arith, c.loop-k-test.true, c.count-count.ensures)

pub overflow_cast-names : goal.overflow_cast-names
overflow_cast-names c =
    let small : c.loop-k.k < length (files_in c.args.src.now) =
    omega (arith, c.loop-k-test.true, c.count-count.ensures) in
    let few = files-few c.args.src.now c.requires.0 in omega arith

pub offset_bounds-names-n : goal.offset_bounds-names-n
offset_bounds-names-n c =
    let few : c.loop-k.n ≤ c.loop-k.k = c.loop-k.invariant.few in let small = files-few c.args.src.now c.requires.0 in search rules

pub bounds-names-n : goal.bounds-names-n
bounds-names-n c =
    going-place
    c.args.c.0
    c.args.today.0
    c.args.retention.0
    c.args.src.now
    c.args.names.now
    c.requires.0
    c.requires.1
    c.loop-k.names
    c.loop-k.k
    c.loop-k.n
    c.loop-k.invariant
    (omega (arith, c.loop-k-test.true, c.count-count.ensures))

pub overflow_add-n : goal.overflow_add-n
overflow_add-n c =
    let few : c.loop-k.n ≤ c.loop-k.k = c.loop-k.invariant.few in let small = files-few c.args.src.now c.requires.0 in omega arith

pub loop-k-preserved : goal.loop-k-preserved
loop-k-preserved c =
    elim c.if-may_go.branch [
      | then-may_go w ↦
          rw (w.names-is, w.n-is) (going-named c.args.c.0 c.args.today.0 c.args.retention.0 c.args.src.now c.args.names.now c.requires.0 c.requires.1
          c.loop-k.names c.loop-k.k c.loop-k.n c.loop-k.invariant
          (omega (arith, c.loop-k-test.true, c.count-count.ensures))
          (sym c.may_go.ensures ∙ w.if-may_go.true))
      | else-may_go w ↦
          rw (w.names-is, w.n-is) (going-past c.args.c.0 c.args.today.0 c.args.retention.0 c.args.src.now c.args.names.now c.requires.0 c.requires.1
          c.loop-k.names c.loop-k.k c.loop-k.n c.loop-k.invariant
          (omega (arith, c.loop-k-test.true, c.count-count.ensures))
          (sym c.may_go.ensures ∙ w.if-may_go.false))
    ]

pub shape_of-names : goal.shape_of-names
shape_of-names c = c.loop-k.invariant.same

pub returns : goal.returns
returns c =
    going_end
    c.args.c.0
    c.args.today.0
    c.args.retention.0
    c.args.src.now
    c.args.names.now
    c.requires.0
    c.requires.1
    c.loop-k.names
    c.loop-k.k
    c.loop-k.n
    c.loop-k.invariant
    (omega (arith, c.loop-k-test.false, c.count-count.ensures))
