-- `distinct_strings` meets its contract. The loop keeps that all strings are distinct where those that are left are; what is left gets shorter.
use mathlib.Core.Path.{refl, sym, ap}
use Prim.Native.Nat.{◌+◌, ◌≤◌}
use native.Mathlib.Omega.{arith}
use lib.ListN.{length, drop}
use Rattle.rules.specs.Bytes.{distinct}
use Rattle.json_strings.specs.Decoded.{decoded}
use Rattle.field_containers.specs.Strung.{Listed, Onward}
use Rattle.field_containers.proofs.Walking.{listed-neither, listed-closed, listed_more, onward-none, onward-neither, onward-closed, onward-more}
use Rattle.rules.proofs.Asking.{distinct-last, distinct-twice, distinct_more}
use Rattle.field_containers.proofs.lists.distinct_strings.Goals as goal

pub loop-n-init : goal.loop-n-init
loop-n-init c =
    let f = c.in-More.ensures in
    (f.2, λ ss l. (ss, refl, listed_more c.args.s.now c.args.at ss l c.in-More.first f))

pub read_name-requires : goal.read_name-requires
read_name-requires c = c.loop-n.invariant.0

pub returns-in_default : goal.returns-in_default
returns-in_default c =
    λ ss l. let (left, e, o) = c.loop-n.invariant.1 ss l in
    onward-none c.args.s.now c.loop-n.i left o c.in_default.ensures

pub closing-requires : goal.closing-requires
closing-requires c = let q = c.in-Some.ensures in q.named.within

pub returns-in-Neither-closing : goal.returns-in-Neither-closing
returns-in-Neither-closing c =
    λ ss l. let (left, e, o) = c.loop-n.invariant.1 ss l in
    onward-neither
    c.args.s.now
    c.loop-n.i
    left o
    c.in-Some.n
    c.in-Some.ensures
    c.in-Neither-closing.ensures

pub returns-in-Closed-closing : goal.returns-in-Closed-closing
returns-in-Closed-closing c =
    distinct-last
    (Listed c.args.s.now c.args.at)
    (Onward c.args.s.now)
    c.loop-n.i
    (decoded (drop c.in-Some.n.at c.args.s.now))
    c.loop-n.invariant.1
    (λ left o. onward-closed c.args.s.now c.loop-n.i left o c.in-Some.n
    c.in-Some.ensures
    c.in-Closed-closing.ensures)

pub held_from-requires : goal.held_from-requires
held_from-requires c =
    let q = c.in-Some.ensures in
    let f = c.in-More-closing.ensures in
    (f.2, record { end = c.in-Some.n.end; closed = q.named.closed })

pub returns-then-held_from : goal.returns-then-held_from
returns-then-held_from c =
    distinct-twice
    (Listed c.args.s.now c.args.at)
    (Onward c.args.s.now)
    c.loop-n.i
    (decoded (drop c.in-Some.n.at c.args.s.now))
    c.loop-n.invariant.1
    c.in-More-closing.k
    (λ left o. onward-more c.args.s.now c.loop-n.i left o c.in-Some.n c.in-Some.ensures c.in-More-closing.k
    c.in-More-closing.ensures)
    c.held_from.result
    c.held_from.ensures
    c.if-held_from.true

pub loop-n-smaller : goal.loop-n-smaller
loop-n-smaller c =
    let q = c.in-Some.ensures in
    let low : c.loop-n.i + 1 ≤ c.in-Some.n.at = q.from in
    let mid : c.in-Some.n.at + 1 ≤ c.in-Some.n.end = q.named.from in
    let f = c.in-More-closing.ensures in
    let after : c.in-Some.n.end + 1 ≤ c.in-More-closing.k = f.1 in
    let within : c.in-More-closing.k ≤ length c.args.s.now = f.2 in
    omega arith

pub loop-n-preserved : goal.loop-n-preserved
loop-n-preserved c =
    let f = c.in-More-closing.ensures in (
      f.2,
      distinct_more
          (Listed c.args.s.now c.args.at)
          (Onward c.args.s.now)
          c.loop-n.i
          (decoded (drop c.in-Some.n.at c.args.s.now))
          c.loop-n.invariant.1
          c.in-More-closing.k
          (λ left o. onward-more c.args.s.now c.loop-n.i left o c.in-Some.n c.in-Some.ensures c.in-More-closing.k
          c.in-More-closing.ensures)
          c.held_from.result
          c.held_from.ensures
          c.if-held_from.false,
    )

pub returns-in-Neither : goal.returns-in-Neither
returns-in-Neither c =
    λ ss l. listed-neither c.args.s.now c.args.at ss l c.in-Neither.ensures

pub returns-in-Closed : goal.returns-in-Closed
unfolding distinct
returns-in-Closed c =
    λ ss l. sym
    (ap distinct (listed-closed c.args.s.now c.args.at ss l c.in-Closed.ensures))
