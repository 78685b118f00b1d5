-- `find` throws away what is before or behind the place that it looks at: names ascend.
use mathlib.Core.Path.{sym, subst, ◌∙◌}
use Rattle.rules.proofs.Searching.{bracket-start, bracket-lookup}
use Rattle.file_bundle.specs.Files.{files_in, no_file}
use Rattle.log_files.specs.Logs.{title}
use Rattle.log_files.proofs.Halving.{Halving, halving-up, halving-down, halving-hit}
use native.Mathlib.Omega.{arith}
use Rattle.log_files.proofs.find.Goals as goal

pub count-hi-requires : goal.count-hi-requires
count-hi-requires c = c.requires

pub loop-lo-init : goal.loop-lo-init
loop-lo-init c = subst (Halving _ _ 0) (sym c.count-hi.ensures) (bracket-start title _ (files_in c.args.s.now) no_file)

pub place_between-mid-requires : goal.place_between-mid-requires
place_between-mid-requires c = c.loop-lo-test.true

pub name_in-requires : goal.name_in-requires
name_in-requires c = omega (arith, c.place_between-mid.ensures.1, c.loop-lo.invariant.hi-le)

pub order_bytes-requires : goal.order_bytes-requires
order_bytes-requires c = tt

pub loop-lo-smaller-in-Less : goal.loop-lo-smaller-in-Less
loop-lo-smaller-in-Less c =
    omega (arith, c.place_between-mid.ensures.0, c.place_between-mid.ensures.1)

pub loop-lo-preserved-in-Less : goal.loop-lo-preserved-in-Less
loop-lo-preserved-in-Less c =
    halving-up
    c.args.s.now
    c.loop-lo.invariant
    c.place_between-mid.result
    c.place_between-mid.ensures.0
    c.place_between-mid.ensures.1
    c.name_in.ensures
    (sym c.in-Less.is ∙ c.order_bytes.ensures)

pub returns-in-Equal : goal.returns-in-Equal
returns-in-Equal c =
    halving-hit
    c.args.s.now
    c.loop-lo.invariant
    c.place_between-mid.result
    c.place_between-mid.ensures.0
    c.place_between-mid.ensures.1
    c.name_in.ensures
    (sym c.in-Equal.is ∙ c.order_bytes.ensures)

pub loop-lo-smaller : goal.loop-lo-smaller
loop-lo-smaller c = omega (arith, c.place_between-mid.ensures.1)

pub loop-lo-preserved : goal.loop-lo-preserved
loop-lo-preserved c =
    halving-down
    c.args.s.now
    c.loop-lo.invariant
    c.place_between-mid.result
    c.place_between-mid.ensures.0
    c.place_between-mid.ensures.1
    c.name_in.ensures
    (sym c.in-Greater.is ∙ c.order_bytes.ensures)

pub returns : goal.returns
returns c = bracket-lookup title _ _ no_file _ _ c.loop-lo.invariant (omega arith)
