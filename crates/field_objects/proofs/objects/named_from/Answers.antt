-- `named_from` meets its contract. The loop keeps that the name is held by what is left, if it is at all; what is left gets shorter.
use mathlib.Core.Path.{refl, sym, ◌∙◌}
use Prim.Native.Nat.{◌+◌, ◌≤◌}
use native.Mathlib.Omega.{arith}
use lib.ListN.{length}
use Rattle.field_names.specs.Spelled.{name_in}
use Rattle.field_objects.specs.Namings.{Members}
use Rattle.field_objects.proofs.Meeting.{members-none, members-neither, members-closed, members-first, members-more}
use Rattle.rules.proofs.Asking.{held-here, held-last, held_more}
use Rattle.field_objects.proofs.objects.named_from.Goals as goal

pub loop-m-init : goal.loop-m-init
loop-m-init c = (c.requires.0, λ names w. (names, refl, w))

pub read_member-requires : goal.read_member-requires
read_member-requires c = c.loop-m.invariant.0

pub returns-in_default : goal.returns-in_default
returns-in_default c =
    λ names w. let (left, e, o) = c.loop-m.invariant.1 names w in
    members-none c.args.depth c.args.s.now c.loop-m.i left o c.in_default.ensures

pub same_names-requires : goal.same_names-requires
same_names-requires c = (c.requires.1, c.in-Some.ensures.named)

pub returns-then-same_names : goal.returns-then-same_names
returns-then-same_names c =
    held-here
    (Members c.args.depth c.args.s.now c.args.at)
    (Members c.args.depth c.args.s.now)
    c.loop-m.i
    (name_in c.args.s.now c.in-Some.m)
    (name_in c.args.s.now c.args.n)
    c.loop-m.invariant.1
    (λ left o. members-first c.args.depth c.args.s.now c.loop-m.i left o c.in-Some.m c.in-Some.field-0-1 c.in-Some.e c.in-Some.ensures)
    (sym c.same_names.ensures ∙ c.if-same_names.true)

pub closing-requires : goal.closing-requires
closing-requires c = c.in-Some.ensures.within

pub returns-in-Neither : goal.returns-in-Neither
returns-in-Neither c =
    λ names w. let (left, e, o) = c.loop-m.invariant.1 names w in
    members-neither
    c.args.depth
    c.args.s.now
    c.loop-m.i
    left o
    c.in-Some.m
    c.in-Some.field-0-1
    c.in-Some.e
    c.in-Some.ensures
    c.in-Neither.ensures

pub returns-in-Closed : goal.returns-in-Closed
returns-in-Closed c =
    held-last
    (Members c.args.depth c.args.s.now c.args.at)
    (Members c.args.depth c.args.s.now)
    c.loop-m.i
    (name_in c.args.s.now c.in-Some.m)
    (name_in c.args.s.now c.args.n)
    c.loop-m.invariant.1
    (sym c.same_names.ensures ∙ c.if-same_names.false)
    (λ left o. members-closed c.args.depth c.args.s.now c.loop-m.i left o c.in-Some.m c.in-Some.field-0-1 c.in-Some.e c.in-Some.ensures c.in-Closed.ensures)

pub loop-m-smaller : goal.loop-m-smaller
loop-m-smaller c =
    let m = c.in-Some.ensures in
    let f = c.in-More.ensures in
    let low : c.loop-m.i + 1 ≤ c.in-Some.field-0-1 = m.from in
    let mid : c.in-Some.field-0-1 ≤ c.in-Some.e = m.ordered in
    let high : c.in-Some.e + 1 ≤ c.in-More.k = f.1 in
    let within : c.in-More.k ≤ length c.args.s.now = f.2 in
    omega arith

pub loop-m-preserved : goal.loop-m-preserved
loop-m-preserved c =
    let f = c.in-More.ensures in (
      f.2,
      held_more
          (Members c.args.depth c.args.s.now c.args.at)
          (Members c.args.depth c.args.s.now)
          c.loop-m.i
          (name_in c.args.s.now c.in-Some.m)
          (name_in c.args.s.now c.args.n)
          c.loop-m.invariant.1
          (sym c.same_names.ensures ∙ c.if-same_names.false)
          c.in-More.k
          (λ left o. members-more c.args.depth c.args.s.now c.loop-m.i left o c.in-Some.m c.in-Some.field-0-1 c.in-Some.e c.in-Some.ensures c.in-More.k f),
    )
