-- `same_from` meets its contract. The loop keeps that what is left of both decides; what is left gets shorter.
use mathlib.Core.Path.{refl, sym, ◌∙◌}
use Prim.Native.Nat.{◌+◌, ◌≤◌}
use native.Mathlib.Omega.{arith}
use lib.ListN.{length}
use Rattle.field_containers.proofs.Walking.{onward-none, onward-neither}
use Rattle.field_containers.proofs.Matching.{pair-other, pair-last, pair-short, pair-long, pair-more}
use Rattle.field_containers.proofs.lists.same_from.Goals as goal

pub loop-n-init : goal.loop-n-init
loop-n-init c =
    (c.requires.0, c.requires.1, λ xs ys c r. (xs, ys, refl, c, r))

pub read_name-requires : goal.read_name-requires
read_name-requires c = c.loop-n.invariant.0

pub returns-in_default : goal.returns-in_default
returns-in_default c =
    λ xs ys o r. let (a, b, g, u, v) = c.loop-n.invariant.2 xs ys o r in
    onward-none c.args.s.now c.loop-n.i a u c.in_default.ensures

pub read_name-requires-in-loop-n : goal.read_name-requires-in-loop-n
read_name-requires-in-loop-n c = c.loop-n.invariant.1

pub returns-in_default-read_name : goal.returns-in_default-read_name
returns-in_default-read_name c =
    λ xs ys o r. let (a, b, g, u, v) = c.loop-n.invariant.2 xs ys o r in
    onward-none c.args.t.now c.loop-n.j b v c.in_default-read_name.ensures

pub same_strings-requires : goal.same_strings-requires
same_strings-requires c =
    let p = c.in-Some-read_name.ensures in
    let q = c.in-Some.ensures in
    (record { end = c.in-Some.n.end; closed = q.named.closed }, record { end = c.in-Some-read_name.m.end; closed = p.named.closed })

pub closing-requires : goal.closing-requires
closing-requires c =
    let q = c.in-Some.ensures in q.named.within

pub returns-in-Neither : goal.returns-in-Neither
returns-in-Neither c =
    let q = c.in-Some.ensures in
    λ xs ys o r. let (a, b, g, u, v) = c.loop-n.invariant.2 xs ys o r in
    onward-neither c.args.s.now c.loop-n.i a u c.in-Some.n q c.in-Neither.ensures

pub closing-requires-in-Closed : goal.closing-requires-in-Closed
closing-requires-in-Closed c =
    let p = c.in-Some-read_name.ensures in p.named.within

pub returns-in-Neither-closing : goal.returns-in-Neither-closing
returns-in-Neither-closing c =
    let p = c.in-Some-read_name.ensures in
    λ xs ys o r. let (a, b, g, u, v) = c.loop-n.invariant.2 xs ys o r in
    onward-neither c.args.t.now c.loop-n.j b v c.in-Some-read_name.m p c.in-Neither-closing.ensures

pub returns-in-Closed-closing : goal.returns-in-Closed-closing
returns-in-Closed-closing c =
    let p = c.in-Some-read_name.ensures in
    let q = c.in-Some.ensures in
    pair-last
    c.args.s.now
    c.args.at
    c.args.t.now
    c.args.from
    c.loop-n.i
    c.loop-n.j
    c.loop-n.invariant.2
    c.in-Some.n
    c.in-Some-read_name.m
    q p
    (sym c.same_strings.ensures ∙ c.if-same_strings.true)
    c.in-Closed.ensures
    c.in-Closed-closing.ensures

pub returns-in-More-closing : goal.returns-in-More-closing
returns-in-More-closing c =
    let p = c.in-Some-read_name.ensures in
    let q = c.in-Some.ensures in
    pair-short
    c.args.s.now
    c.args.at
    c.args.t.now
    c.args.from
    c.loop-n.i
    c.loop-n.j
    c.loop-n.invariant.2
    c.in-Some.n
    c.in-Some-read_name.m
    q p
    (sym c.same_strings.ensures ∙ c.if-same_strings.true)
    c.in-Closed.ensures
    c.in-More-closing.ensures

pub closing-requires-in-More : goal.closing-requires-in-More
closing-requires-in-More c =
    let p = c.in-Some-read_name.ensures in p.named.within

pub returns-in-Neither-closing-2 : goal.returns-in-Neither-closing-2
returns-in-Neither-closing-2 c =
    let p = c.in-Some-read_name.ensures in
    λ xs ys o r. let (a, b, g, u, v) = c.loop-n.invariant.2 xs ys o r in
    onward-neither c.args.t.now c.loop-n.j b v c.in-Some-read_name.m p c.in-Neither-closing-2.ensures

pub returns-in-Closed-closing-2 : goal.returns-in-Closed-closing-2
returns-in-Closed-closing-2 c =
    let p = c.in-Some-read_name.ensures in
    let q = c.in-Some.ensures in
    pair-long
    c.args.s.now
    c.args.at
    c.args.t.now
    c.args.from
    c.loop-n.i
    c.loop-n.j
    c.loop-n.invariant.2
    c.in-Some.n
    c.in-Some-read_name.m
    q p
    (sym c.same_strings.ensures ∙ c.if-same_strings.true)
    c.in-More.k
    c.in-More.ensures
    c.in-Closed-closing-2.ensures

pub loop-n-smaller : goal.loop-n-smaller
loop-n-smaller c =
    let q = c.in-Some.ensures in
    let low : c.loop-n.i + 1 ≤ c.in-Some.n.at = q.from in
    let mid : c.in-Some.n.at + 1 ≤ c.in-Some.n.end = q.named.from in
    let f = c.in-More.ensures in
    let after : c.in-Some.n.end + 1 ≤ c.in-More.k = f.1 in
    let within : c.in-More.k ≤ length c.args.s.now = f.2 in
    omega arith

pub loop-n-preserved : goal.loop-n-preserved
loop-n-preserved c =
    let p = c.in-Some-read_name.ensures in
    let q = c.in-Some.ensures in
    let f = c.in-More.ensures in
    let g = c.in-More-closing-2.ensures in (
      f.2,
      g.2,
      pair-more
          c.args.s.now
          c.args.at
          c.args.t.now
          c.args.from
          c.loop-n.i
          c.loop-n.j
          c.loop-n.invariant.2
          c.in-Some.n
          c.in-Some-read_name.m
          q p
          (sym c.same_strings.ensures ∙ c.if-same_strings.true)
          c.in-More.k
          f
          c.in-More-closing-2.l
          g,
    )

pub returns-else-same_strings : goal.returns-else-same_strings
returns-else-same_strings c =
    let p = c.in-Some-read_name.ensures in
    let q = c.in-Some.ensures in
    pair-other
    c.args.s.now
    c.args.at
    c.args.t.now
    c.args.from
    c.loop-n.i
    c.loop-n.j
    c.loop-n.invariant.2
    c.in-Some.n
    c.in-Some-read_name.m
    q p
    (sym c.same_strings.ensures ∙ c.if-same_strings.false)
