-- `skip_eights` meets its contract. The run of digits from `at` on goes on at i; a mark in a number ends what is passed within it.
use mathlib.Core.Path.{sym, subst}
use native.Mathlib.Omega.{arith}
use Rattle.bytes_eights.specs.Words.{Digits}
use Rattle.bytes_eights.proofs.Words.{zeros-all}
use Rattle.json_tokens.proofs.Runs.{running-start}
use Rattle.json_tokens.proofs.Eights.{running-eight, running-passed}
use Rattle.json_tokens.proofs.numbers.skip_eights.Goals as goal

pub loop-i-init : goal.loop-i-init
loop-i-init c = running-start c.requires

pub overflow_sub-s : goal.overflow_sub-s
overflow_sub-s c = c.loop-i.invariant.within

pub word_at-requires : goal.word_at-requires
word_at-requires c = omega (arith, c.loop-i-test.true, c.loop-i.invariant.within)

pub non_digits-bad-requires : goal.non_digits-bad-requires
non_digits-bad-requires c = tt

pub zero_bytes-requires : goal.zero_bytes-requires
zero_bytes-requires c = tt

pub overflow_add-result : goal.overflow_add-result
overflow_add-result c =
    omega (arith, c.loop-i.invariant.within, c.loop-i-test.true, c.zero_bytes.ensures.0)

pub returns-then-bad-ne0 : goal.returns-then-bad-ne0
returns-then-bad-ne0 c =
    running-passed
    (running-eight c.args.s.now c.args.at _ _ _ c.loop-i.invariant (omega (arith, c.loop-i-test.true, c.loop-i.invariant.within, c.zero_bytes.ensures.0))
    c.word_at.ensures c.zero_bytes.ensures.0
    (subst (Digits _) (sym c.zero_bytes.ensures.1) c.non_digits-bad.ensures.0))

pub overflow_add-i : goal.overflow_add-i
overflow_add-i c = omega arith

pub loop-i-smaller : goal.loop-i-smaller
loop-i-smaller c = omega arith

pub loop-i-preserved : goal.loop-i-preserved
loop-i-preserved c =
    running-eight c.args.s.now c.args.at _ _ 8 c.loop-i.invariant (omega (arith, c.loop-i-test.true, c.loop-i.invariant.within)) c.word_at.ensures (omega arith)
    (subst (Digits _) (zeros-all _ c.if-bad-ne0.false) c.non_digits-bad.ensures.0)

pub returns : goal.returns
returns c = running-passed c.loop-i.invariant
