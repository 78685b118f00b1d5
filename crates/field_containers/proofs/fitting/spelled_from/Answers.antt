-- `spelled_from` meets its contract. The loop keeps that what is left of both decides; what is left gets shorter.
use mathlib.Core.Path.{sym, ◌∙◌}
use mathlib.Core.Bool.{false≢true}
use Prim.Native.Nat.{◌+◌, ◌-◌, ◌≤◌}
use native.Mathlib.Omega.{arith}
use lib.ListN.{length}
use Rattle.field_containers.proofs.InStep.{name-ends, step-close, step-last, step-more}
use Rattle.field_containers.proofs.fitting.spelled_from.Goals as goal

pub loop-n-init : goal.loop-n-init
loop-n-init c =
    (c.requires.0, c.requires.1, λ xs ys o r. (xs, ys, λ e. e, o, r))

pub read_member-requires : goal.read_member-requires
read_member-requires c = c.loop-n.invariant.0

pub returns-in_default : goal.returns-in_default
returns-in_default c = λ e. absurd (false≢true e)

pub slice_bounds-begins_with-count : goal.slice_bounds-begins_with-count
slice_bounds-begins_with-count c = name-ends c.in-Some.ensures

pub slice_bounds-begins_with-start : goal.slice_bounds-begins_with-start
slice_bounds-begins_with-start c = name-ends c.in-Some.ensures

pub slice_bounds-begins_with-end : goal.slice_bounds-begins_with-end
slice_bounds-begins_with-end c = let m = c.in-Some.ensures in m.named.within

pub slice_bounds-begins_with-count-in-loop-n : goal.slice_bounds-begins_with-count-in-loop-n
slice_bounds-begins_with-count-in-loop-n c = c.loop-n.invariant.1

pub overflow_sub-close : goal.overflow_sub-close
overflow_sub-close c =
    name-ends c.in-Some.ensures

pub overflow_add-close : goal.overflow_add-close
overflow_add-close c =
    let l : c.loop-n.j + (c.in-Some.n.end - c.loop-n.i) ≤ length c.args.t.now =
    step-close c.args.s.now c.args.at c.args.t.now c.args.from c.loop-n.i c.loop-n.j c.loop-n.invariant.2
    c.in-Some.n
    c.in-Some.field-0-1
    c.in-Some.e
    c.in-Some.ensures
    (sym c.begins_with.ensures ∙ c.if-begins_with.true) in
    omega arith

pub closing-requires : goal.closing-requires
closing-requires c =
    let m = c.in-Some.ensures in
    m.within

pub returns-in-Neither : goal.returns-in-Neither
returns-in-Neither c = λ e. absurd (false≢true e)

pub closing-requires-in-Closed : goal.closing-requires-in-Closed
closing-requires-in-Closed c =
    step-close c.args.s.now c.args.at c.args.t.now c.args.from c.loop-n.i c.loop-n.j c.loop-n.invariant.2
    c.in-Some.n
    c.in-Some.field-0-1
    c.in-Some.e
    c.in-Some.ensures
    (sym c.begins_with.ensures ∙ c.if-begins_with.true)

pub returns-in-Neither-closing : goal.returns-in-Neither-closing
returns-in-Neither-closing c = λ e. absurd (false≢true e)

pub returns-in-Closed-closing : goal.returns-in-Closed-closing
returns-in-Closed-closing c =
    λ _. step-last c.args.s.now c.args.at c.args.t.now c.args.from c.loop-n.i c.loop-n.j c.loop-n.invariant.2
    c.in-Some.n
    c.in-Some.field-0-1
    c.in-Some.e
    c.in-Some.ensures
    (sym c.begins_with.ensures ∙ c.if-begins_with.true)
    c.in-Closed.ensures
    c.in-Closed-closing.ensures

pub returns-in-More-closing : goal.returns-in-More-closing
returns-in-More-closing c = λ e. absurd (false≢true e)

pub closing-requires-in-More : goal.closing-requires-in-More
closing-requires-in-More c =
    step-close c.args.s.now c.args.at c.args.t.now c.args.from c.loop-n.i c.loop-n.j c.loop-n.invariant.2
    c.in-Some.n
    c.in-Some.field-0-1
    c.in-Some.e
    c.in-Some.ensures
    (sym c.begins_with.ensures ∙ c.if-begins_with.true)

pub returns-in-Neither-closing-2 : goal.returns-in-Neither-closing-2
returns-in-Neither-closing-2 c = λ e. absurd (false≢true e)

pub returns-in-Closed-closing-2 : goal.returns-in-Closed-closing-2
returns-in-Closed-closing-2 c = λ e. absurd (false≢true e)

pub loop-n-smaller : goal.loop-n-smaller
loop-n-smaller c =
    let m = c.in-Some.ensures in
    let f = c.in-More.ensures in
    let low : c.loop-n.i + 1 ≤ c.in-Some.field-0-1 = m.from in
    let mid : c.in-Some.field-0-1 ≤ c.in-Some.e = m.ordered in
    let high : c.in-Some.e + 1 ≤ c.in-More.k = f.1 in
    let within : c.in-More.k ≤ length c.args.s.now = f.2 in
    omega arith

pub loop-n-preserved : goal.loop-n-preserved
loop-n-preserved c =
    let f = c.in-More.ensures in
    let g = c.in-More-closing-2.ensures in (
      f.2,
      g.2,
      step-more c.args.s.now c.args.at c.args.t.now c.args.from c.loop-n.i c.loop-n.j c.loop-n.invariant.2
          c.in-Some.n c.in-Some.field-0-1 c.in-Some.e c.in-Some.ensures (sym c.begins_with.ensures ∙ c.if-begins_with.true)
          c.in-More.k c.in-More-closing-2.l f g,
    )

pub returns-else-begins_with : goal.returns-else-begins_with
returns-else-begins_with c = λ e. absurd (false≢true e)
