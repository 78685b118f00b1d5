-- `find_from` meets its contract. The loop keeps that what is asked of all members is asked of those that are left; what is left gets shorter.
use mathlib.Core.Path.{refl, sym, ◌∙◌}
use Prim.Native.Nat.{◌+◌, ◌≤◌}
use native.Mathlib.Omega.{arith}
use lib.ListN.{length}
use Rattle.field_objects.proofs.Going.{going-none, going-here, going-neither, going-closed, going_more}
use Rattle.field_objects.proofs.lookup.find_from.Goals as goal

pub loop-n-init : goal.loop-n-init
loop-n-init c = (c.requires.0, λ w. (w, refl))

pub read_member-requires : goal.read_member-requires
read_member-requires c = c.loop-n.invariant.0

pub returns-in_err-n : goal.returns-in_err-n
returns-in_err-n c = rw c.from_residual.ensures (λ w. going-none _ _ _ _ _ c.loop-n.invariant.1 c.in_err-n.ensures w)

pub returns-then-same_strings : goal.returns-then-same_strings
returns-then-same_strings c =
    going-here _ _ _ _ _
    c.loop-n.invariant.1
    c.in_ok-n.n
    _ _
    c.in_ok-n.ensures
    (sym c.same_strings.ensures ∙ c.if-same_strings.true)

pub closing-requires : goal.closing-requires
closing-requires c = c.in_ok-n.ensures.within

pub returns-in-Neither : goal.returns-in-Neither
returns-in-Neither c =
    λ w. going-neither _ _ _ _ _
    c.loop-n.invariant.1
    c.in_ok-n.n
    _ _
    c.in_ok-n.ensures
    c.in-Neither.ensures
    w

pub returns-in-Closed : goal.returns-in-Closed
returns-in-Closed c =
    going-closed _ _ _ _ _
    c.loop-n.invariant.1
    c.in_ok-n.n
    _ _
    c.in_ok-n.ensures
    (sym c.same_strings.ensures ∙ (cc))
    c.in-Closed.ensures

pub loop-n-smaller : goal.loop-n-smaller
loop-n-smaller c =
    let m = c.in_ok-n.ensures in
    let f = c.in-More.ensures in
    let low : c.loop-n.i + 1 ≤ c.in_ok-n.v = m.from in
    let mid : c.in_ok-n.v ≤ c.in_ok-n.e = m.ordered in
    let high : c.in_ok-n.e + 1 ≤ c.in-More.k = f.1 in
    let within : c.in-More.k ≤ length c.args.s.now = f.2 in
    omega arith

pub loop-n-preserved : goal.loop-n-preserved
loop-n-preserved c =
    let f = c.in-More.ensures in (
      f.2,
      going_more _ _ _ _ _
          c.loop-n.invariant.1
          c.in_ok-n.n
          _ _
          c.in_ok-n.ensures
          (sym c.same_strings.ensures ∙ (cc))
          _ f,
    )
