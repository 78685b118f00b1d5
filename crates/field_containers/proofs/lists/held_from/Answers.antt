-- `held_from` meets its contract. The loop keeps that the string is held by what is left, if it is at all; what is left gets shorter.
use mathlib.Core.Path.{refl, sym, ◌∙◌}
use Prim.Native.Nat.{◌+◌, ◌≤◌}
use native.Mathlib.Omega.{arith}
use lib.ListN.{length, drop}
use Rattle.json_strings.specs.Decoded.{decoded}
use Rattle.field_containers.specs.Strung.{Onward}
use Rattle.field_containers.proofs.Walking.{onward-none, onward-neither, onward-closed, onward-first, onward-more}
use Rattle.rules.proofs.Asking.{held-here, held-last, held_more}
use Rattle.field_containers.proofs.lists.held_from.Goals as goal

pub loop-n-init : goal.loop-n-init
loop-n-init c = (c.requires.0, λ ss w. (ss, refl, w))

pub read_name-requires : goal.read_name-requires
read_name-requires c = c.loop-n.invariant.0

pub returns-in_default : goal.returns-in_default
returns-in_default c =
    λ ss w. let (left, e, o) = c.loop-n.invariant.1 ss w in
    onward-none
    c.args.s.now
    c.loop-n.i
    left o
    c.in_default.ensures

pub same_strings-requires : goal.same_strings-requires
same_strings-requires c =
    let q = c.in-Some.ensures in
    (c.requires.1, record { end = c.in-Some.n.end; closed = q.named.closed })

pub returns-then-same_strings : goal.returns-then-same_strings
returns-then-same_strings c =
    held-here
    (Onward c.args.s.now c.args.at)
    (Onward c.args.s.now)
    c.loop-n.i
    (decoded (drop c.in-Some.n.at c.args.s.now))
    (decoded (drop c.args.j c.args.t.now))
    c.loop-n.invariant.1
    (λ left o. onward-first c.args.s.now c.loop-n.i left o c.in-Some.n c.in-Some.ensures)
    (sym c.same_strings.ensures ∙ c.if-same_strings.true)

pub closing-requires : goal.closing-requires
closing-requires c =
    let q = c.in-Some.ensures in q.named.within

pub returns-in-Neither : goal.returns-in-Neither
returns-in-Neither c =
    λ ss w. let (left, e, o) = c.loop-n.invariant.1 ss w in
    onward-neither
    c.args.s.now
    c.loop-n.i
    left o
    c.in-Some.n
    c.in-Some.ensures
    c.in-Neither.ensures

pub returns-in-Closed : goal.returns-in-Closed
returns-in-Closed c =
    held-last
    (Onward c.args.s.now c.args.at)
    (Onward c.args.s.now)
    c.loop-n.i
    (decoded (drop c.in-Some.n.at c.args.s.now))
    (decoded (drop c.args.j c.args.t.now))
    c.loop-n.invariant.1
    (sym c.same_strings.ensures ∙ c.if-same_strings.false)
    (λ left o. onward-closed c.args.s.now c.loop-n.i left o c.in-Some.n c.in-Some.ensures
    c.in-Closed.ensures)

pub loop-n-smaller : goal.loop-n-smaller
loop-n-smaller c =
    let q = c.in-Some.ensures in
    let low : c.loop-n.i + 1 ≤ c.in-Some.n.at = q.from in
    let mid : c.in-Some.n.at + 1 ≤ c.in-Some.n.end = q.named.from in
    let f = c.in-More.ensures in
    let after : c.in-Some.n.end + 1 ≤ c.in-More.k = f.1 in
    let within : c.in-More.k ≤ length c.args.s.now = f.2 in
    omega arith

pub loop-n-preserved : goal.loop-n-preserved
loop-n-preserved c =
    let f = c.in-More.ensures in (
      f.2,
      held_more
          (Onward c.args.s.now c.args.at)
          (Onward c.args.s.now)
          c.loop-n.i
          (decoded (drop c.in-Some.n.at c.args.s.now))
          (decoded (drop c.args.j c.args.t.now))
          c.loop-n.invariant.1
          (sym c.same_strings.ensures ∙ c.if-same_strings.false)
          c.in-More.k
          (λ left o. onward-more c.args.s.now c.loop-n.i left o c.in-Some.n c.in-Some.ensures c.in-More.k f),
    )
