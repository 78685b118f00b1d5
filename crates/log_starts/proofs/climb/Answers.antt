-- Each turn passes one version file, as `Climbing` says; above the highest version there is none.
use mathlib.Core.Path.{◌≡◌, sym, ◌∙◌}
use lib.Dec.{ltb}
use borrow.Author.Tests.{ltb-true, ltb-false}
use Rattle.rules.specs.Numbers.{most}
use Rattle.rules.proofs.Tests.{by}
use Rattle.rules.specs.Starts.{log_of}
use Rattle.file_bundle.proofs.Reading.{found}
use Rattle.log_files.proofs.Spellings.{version-ended, find-above}
use Rattle.rules.proofs.Climbing.{climbing-start, climbing-end, climbing-next}
use native.Mathlib.Omega.{arith}
use Rattle.log_starts.proofs.climb.Goals as goal

pub loop-w-init : goal.loop-w-init
loop-w-init c = climbing-start _ _

pub returns-in_default : goal.returns-in_default
returns-in_default c = climbing-end c.loop-w.invariant c.in_default.ensures

pub overflow_add-place : goal.overflow_add-place
overflow_add-place c = omega (arith, (found _ _ c.in-Some.ensures.0).contents)

pub loop-w-preserved : goal.loop-w-preserved
unfolding most
loop-w-preserved c = climbing-next c.loop-w.invariant c.loop-w-test.true c.in-Some.ensures.1

pub returns : goal.returns
unfolding most log_of
returns c =
    by (ltb c.args.v.0 most)
    (λ l.
    let b = ltb-true c.args.v.0 most l in
    let e : c.loop-w.w ≡ c.max.result = omega arith in
    sym e ∙ climbing-end c.loop-w.invariant (find-above version-ended _ _ (omega arith)))
    (λ l.
    let b = ltb-false c.args.v.0 most l in
    let e : c.args.v.0 ≡ c.max.result = omega arith in
    sym e ∙ climbing-end (climbing-start _ _) (find-above version-ended _ _ (omega arith)))
