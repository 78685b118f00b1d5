-- `common_long` meets its contract: eights that are the same in both, up to the first that are not or to the last.
use Rattle.std.proofs.Common.{◌≡◌, ◌-◌, ◌^◌, ◌<◌, sym, ap, ◌∙◌, arith}
use Rattle.bytes_eights.specs.Words.{zeros}
use Rattle.bytes_eights.proofs.Words.{zeros-all, zeros-few}
use Rattle.bytes_eights.proofs.Sides.{alike-none, alike-less, alike-joined, common-eight, common-joined}
use Rattle.bytes_eights.proofs.common_long.Goals as goal

pub overflow_sub-last : goal.overflow_sub-last
overflow_sub-last c = omega arith

pub loop-n-init : goal.loop-n-init
loop-n-init c =
    (omega arith, c.requires.1, c.requires.2, alike-none c.args.s.now c.args.i c.args.t.now c.args.j)

pub overflow_add-i : goal.overflow_add-i
overflow_add-i c = omega arith

pub word_at-requires : goal.word_at-requires
word_at-requires c = omega arith

pub overflow_add-j : goal.overflow_add-j
overflow_add-j c = omega arith

pub word_at-requires-in-loop-n : goal.word_at-requires-in-loop-n
word_at-requires-in-loop-n c = omega arith

pub differ-d-requires : goal.differ-d-requires
differ-d-requires c = tt

pub zero_bytes-requires : goal.zero_bytes-requires
zero_bytes-requires c = tt

pub overflow_add-result : goal.overflow_add-result
overflow_add-result c = omega arith

pub returns-then-d-ne0 : goal.returns-then-d-ne0
returns-then-d-ne0 c =
    let below : c.differ-d.result < 2 ^ 64 = omega (arith, c.differ-d.type_inv) in
    let few = zeros-few c.differ-d.result below c.if-d-ne0.true in
    let eight = common-eight c.args.s.now _ c.args.t.now _ _ _ _ c.word_at.ensures c.word_at-in-loop-n.ensures
    (c.zero_bytes.ensures.1 ∙ ap zeros c.differ-d.ensures) in
    common-joined c.args.s.now c.args.i c.args.t.now c.args.j _ _ 8 c.args.room c.loop-n.invariant.3 eight (omega (arith, c.loop-n-test.true))
    (λ h. omega (arith, few, c.zero_bytes.ensures.1))

pub overflow_add-n : goal.overflow_add-n
overflow_add-n c = omega arith

pub loop-n-smaller : goal.loop-n-smaller
loop-n-smaller c = omega arith

pub loop-n-preserved : goal.loop-n-preserved
loop-n-preserved c =
    let all : 8 ≡ zeros c.differ-d.result = sym (zeros-all c.differ-d.result c.if-d-ne0.false) in
    let eight = common-eight c.args.s.now _ c.args.t.now _ _ _ 8 c.word_at.ensures c.word_at-in-loop-n.ensures (all ∙ ap zeros c.differ-d.ensures) in (
      omega (arith, c.loop-n-test.true),
      c.loop-n.invariant.1,
      c.loop-n.invariant.2,
      alike-joined c.args.s.now c.args.i c.args.t.now c.args.j _ 8 c.loop-n.invariant.3 eight.1,
    )

pub overflow_add-i-2 : goal.overflow_add-i-2
overflow_add-i-2 c = omega arith

pub overflow_add-j-2 : goal.overflow_add-j-2
overflow_add-j-2 c = omega arith

pub common_eight-requires : goal.common_eight-requires
common_eight-requires c = omega arith

pub overflow_add-result-2 : goal.overflow_add-result-2
overflow_add-result-2 c = omega arith

pub returns : goal.returns
returns c =
    let before = alike-less c.args.s.now c.args.i c.args.t.now c.args.j _ (c.args.room - 8) c.loop-n-test.false c.loop-n.invariant.3 in
    common-joined c.args.s.now c.args.i c.args.t.now c.args.j _ _ 8 c.args.room before c.common_eight.ensures (omega arith) (λ h. omega arith)
