-- `skip_digits` meets its contract. The run of digits from `at` on goes on at i.
use mathlib.Core.Path.{◌≡◌, sym, subst}
use native.Mathlib.Omega.{arith}
use lib.ListN.{length}
use Rattle.json_tokens.specs.Answers.{Skips}
use Rattle.json_tokens.proofs.Runs.{digits-run, running_more, running-stop, running-ended}
use Rattle.json_tokens.proofs.Eights.{passed-running}
use Rattle.json_tokens.proofs.numbers.skip_digits.Goals as goal

pub loop-i-init : goal.loop-i-init
loop-i-init c = passed-running c.skip_eights-i.ensures

pub returns-then-not-is_digit : goal.returns-then-not-is_digit
returns-then-not-is_digit c = running-stop digits-run c.loop-i.invariant c.loop-i-test.true (sym c.if-not-is_digit.ensures)

pub loop-i-preserved : goal.loop-i-preserved
loop-i-preserved c = running_more digits-run c.loop-i.invariant c.loop-i-test.true (sym c.if-not-is_digit.ensures)

pub returns : goal.returns
returns c =
    let end : c.loop-i.i ≡ length c.args.s.now = omega arith in
    subst (Skips _ _ _) end (running-ended digits-run c.loop-i.invariant c.loop-i-test.false)
