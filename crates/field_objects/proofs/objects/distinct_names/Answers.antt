-- `distinct_names` meets its contract. The loop keeps that all names are distinct where those that are left are; what is left gets shorter.
use mathlib.Core.Path.{refl, sym, ap}
use Prim.Native.Nat.{◌+◌, ◌≤◌}
use native.Mathlib.Omega.{arith}
use lib.ListN.{length}
use Rattle.rules.specs.Bytes.{distinct}
use Rattle.field_names.specs.Spelled.{name_in}
use Rattle.field_objects.specs.Namings.{Object, Members}
use Rattle.field_objects.proofs.Meeting.{object-neither, object-closed, object-more, members-none, members-neither, members-closed, members-more}
use Rattle.rules.proofs.Asking.{distinct-last, distinct-twice, distinct_more}
use Rattle.field_objects.proofs.objects.distinct_names.Goals as goal

pub loop-n-init : goal.loop-n-init
loop-n-init c =
    let f = c.in-More.ensures in
    (f.2, λ names w. (names, refl, object-more c.args.depth c.args.s.now c.args.at names w c.in-More.first f))

pub read_member-requires : goal.read_member-requires
read_member-requires c = c.loop-n.invariant.0

pub returns-in_default : goal.returns-in_default
returns-in_default c =
    λ names w. let (left, e, o) = c.loop-n.invariant.1 names w in
    members-none c.args.depth c.args.s.now c.loop-n.i left o c.in_default.ensures

pub closing-requires : goal.closing-requires
closing-requires c = c.in-Some.ensures.within

pub returns-in-Neither-closing : goal.returns-in-Neither-closing
returns-in-Neither-closing c =
    λ names w. let (left, e, o) = c.loop-n.invariant.1 names w in
    members-neither
    c.args.depth
    c.args.s.now
    c.loop-n.i
    left o
    c.in-Some.n
    c.in-Some.field-0-1
    c.in-Some.e
    c.in-Some.ensures
    c.in-Neither-closing.ensures

pub returns-in-Closed-closing : goal.returns-in-Closed-closing
returns-in-Closed-closing c =
    distinct-last
    (Object c.args.depth c.args.s.now c.args.at)
    (Members c.args.depth c.args.s.now)
    c.loop-n.i
    (name_in c.args.s.now c.in-Some.n)
    c.loop-n.invariant.1
    (λ left o. members-closed c.args.depth c.args.s.now c.loop-n.i left o c.in-Some.n c.in-Some.field-0-1 c.in-Some.e
    c.in-Some.ensures c.in-Closed-closing.ensures)

pub named_from-requires : goal.named_from-requires
named_from-requires c = (c.in-More-closing.ensures.2, c.in-Some.ensures.named)

pub returns-then-named_from : goal.returns-then-named_from
returns-then-named_from c =
    distinct-twice
    (Object c.args.depth c.args.s.now c.args.at)
    (Members c.args.depth c.args.s.now)
    c.loop-n.i
    (name_in c.args.s.now c.in-Some.n)
    c.loop-n.invariant.1
    c.in-More-closing.k
    (λ left o. members-more c.args.depth c.args.s.now c.loop-n.i left o c.in-Some.n c.in-Some.field-0-1 c.in-Some.e
    c.in-Some.ensures c.in-More-closing.k c.in-More-closing.ensures)
    c.named_from.result
    c.named_from.ensures
    c.if-named_from.true

pub loop-n-smaller : goal.loop-n-smaller
loop-n-smaller c =
    let m = c.in-Some.ensures in
    let f = c.in-More-closing.ensures in
    let low : c.loop-n.i + 1 ≤ c.in-Some.field-0-1 = m.from in
    let mid : c.in-Some.field-0-1 ≤ c.in-Some.e = m.ordered in
    let high : c.in-Some.e + 1 ≤ c.in-More-closing.k = f.1 in
    let within : c.in-More-closing.k ≤ length c.args.s.now = f.2 in
    omega arith

pub loop-n-preserved : goal.loop-n-preserved
loop-n-preserved c =
    let f = c.in-More-closing.ensures in (
      f.2,
      distinct_more
          (Object c.args.depth c.args.s.now c.args.at)
          (Members c.args.depth c.args.s.now)
          c.loop-n.i
          (name_in c.args.s.now c.in-Some.n)
          c.loop-n.invariant.1
          c.in-More-closing.k
          (λ left o. members-more c.args.depth c.args.s.now c.loop-n.i left o c.in-Some.n c.in-Some.field-0-1 c.in-Some.e
          c.in-Some.ensures c.in-More-closing.k c.in-More-closing.ensures)
          c.named_from.result
          c.named_from.ensures
          c.if-named_from.false,
    )

pub returns-in-Neither : goal.returns-in-Neither
returns-in-Neither c =
    λ names w. object-neither
    c.args.depth
    c.args.s.now
    c.args.at
    names w
    c.in-Neither.ensures

pub returns-in-Closed : goal.returns-in-Closed
unfolding distinct
returns-in-Closed c =
    λ names w. sym (ap distinct
    (object-closed c.args.depth c.args.s.now c.args.at names w c.in-Closed.ensures))
