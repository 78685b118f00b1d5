-- The invariant: what has been passed is plain. The measure is what is left. A number that is not plain as a whole ends the run within it.
use mathlib.Core.Path.{sym, subst}
use native.Mathlib.Omega.{arith}
use Prim.Native.Nat.{◌<◌, ◌^◌}
use Rattle.bytes_eights.specs.Words.{Plain, PlainTo}
use Rattle.bytes_eights.proofs.Words.{zeros-all, zeros-few}
use Rattle.json_characters.proofs.Runs.{plains-none, plains-joined, plains-eight, run-eight}
use Rattle.json_characters.proofs.plain.skip_plain.Goals as goal

pub loop-i-init : goal.loop-i-init
loop-i-init c = (omega arith, c.requires, plains-none c.args.s.now c.args.at)

pub overflow_sub-s : goal.overflow_sub-s
overflow_sub-s c = c.loop-i.invariant.1

pub word_at-requires : goal.word_at-requires
word_at-requires c = omega (arith, c.loop-i-test.true, c.loop-i.invariant.1)

pub stops-bad-requires : goal.stops-bad-requires
stops-bad-requires c = tt

pub zero_bytes-requires : goal.zero_bytes-requires
zero_bytes-requires c = tt

pub overflow_add-result : goal.overflow_add-result
overflow_add-result c =
    omega (arith, c.loop-i.invariant.1, c.loop-i-test.true, c.zero_bytes.ensures.0)

pub returns-then-bad-ne0 : goal.returns-then-bad-ne0
returns-then-bad-ne0 c =
    let below : c.stops-bad.result < 2 ^ 64 = omega (arith, c.stops-bad.type_inv) in
    let few = zeros-few c.stops-bad.result below c.if-bad-ne0.true in
    run-eight c.args.s.now _ _ _ _ c.loop-i.invariant.0 c.loop-i.invariant.2
    (omega (arith, c.loop-i.invariant.1, c.loop-i-test.true))
    c.word_at.ensures
    (omega (arith, few, c.zero_bytes.ensures.1))
    (subst (PlainTo _) (sym c.zero_bytes.ensures.1) c.stops-bad.ensures)

pub overflow_add-i : goal.overflow_add-i
overflow_add-i c = omega arith

pub loop-i-smaller : goal.loop-i-smaller
loop-i-smaller c = omega arith

pub loop-i-preserved : goal.loop-i-preserved
loop-i-preserved c =
    let all = subst (Plain _) (zeros-all _ c.if-bad-ne0.false) c.stops-bad.ensures.0 in (
      omega (arith, c.loop-i.invariant.0),
      omega (arith, c.loop-i.invariant.1, c.loop-i-test.true),
      plains-joined c.args.s.now _ _ _ c.loop-i.invariant.2 (plains-eight c.args.s.now _ _ 8 c.word_at.ensures (omega arith) all),
    )

pub skip_few-requires : goal.skip_few-requires
skip_few-requires c = c.loop-i.invariant.1

pub returns : goal.returns
returns c =
    let l = c.loop-i.invariant in
    let e = c.skip_few.ensures in
    (omega (arith, l.0, e.0), e.1, plains-joined c.args.s.now _ _ _ l.2 e.2, e.3)
