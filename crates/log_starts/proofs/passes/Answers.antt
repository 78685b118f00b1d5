-- Going down from v to n, what is left to find out is the same as at v.
use mathlib.Core.Path.{refl, sym, ◌∙◌}
use Rattle.rules.specs.Starts.{log_of}
use Rattle.file_bundle.specs.Files.{files_in}
use Rattle.log_starts.proofs.Passing.{passing-next, passing-start, passing-gap, passing-none, place-there, place-missing}
use native.Mathlib.Omega.{arith}
use Rattle.log_starts.proofs.passes.Goals as goal

pub loop-w-init : goal.loop-w-init
loop-w-init c = refl

pub returns-then-is_some : goal.returns-then-is_some
returns-then-is_some c =
    let p = place-there c.args.s.now _ c.start_at.result c.start_at.ensures c.if-is_some.ensures in
    sym (passing-start (log_of (files_in c.args.s.now)) _ _ c.loop-w-test.true p.1) ∙ c.loop-w.invariant

pub returns-in_default : goal.returns-in_default
returns-in_default c =
    sym (passing-gap (log_of (files_in c.args.s.now)) _ _ c.loop-w-test.true c.in_default.ensures) ∙ c.loop-w.invariant

pub loop-w-preserved : goal.loop-w-preserved
loop-w-preserved c =
    let p = place-missing c.args.s.now _ c.start_at.result c.start_at.ensures c.if-is_some.ensures in
    sym (passing-next (log_of (files_in c.args.s.now)) _ _ c.loop-w-test.true p c.in-Some.ensures.1) ∙ c.loop-w.invariant

pub returns : goal.returns
returns c = sym (passing-none (log_of (files_in c.args.s.now)) _ _ (omega arith)) ∙ c.loop-w.invariant
