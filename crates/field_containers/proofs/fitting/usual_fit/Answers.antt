-- `usual_fit` meets its contract. One name and one string, or two and two, are alike byte for byte.
use Prim.Native.Nat.{◌<◌}
use Rattle.field_containers.proofs.Telling.{again-ends, first_ends, sole-fits, couple-fits}
use native.Mathlib.Omega.{arith}
use Rattle.field_containers.proofs.fitting.usual_fit.Goals as goal

pub closed_at-requires : goal.closed_at-requires
closed_at-requires c =
    first_ends c.args.s.now c.args.values c.args.t.now c.args.columns c.requires.0 (omega arith)
    (c.stands.ensures c.if-not-stands.false)

pub returns-then-second-eq0 : goal.returns-then-second-eq0
returns-then-second-eq0 c =
    λ e. sole-fits
    c.args.s.now
    c.args.values
    c.args.t.now
    c.args.columns
    (c.requires.0.one (omega arith) c.if-second-eq0.true)
    (c.stands.ensures c.if-not-stands.false)
    (c.closed_at.ensures e)

pub closing-requires : goal.closing-requires
closing-requires c =
    first_ends c.args.s.now c.args.values c.args.t.now c.args.columns c.requires.0 (omega arith)
    (c.stands.ensures c.if-not-stands.false)

pub closed_at-requires-then-stands : goal.closed_at-requires-then-stands
closed_at-requires-then-stands c =
    let h : 0 < c.args.usual.end = omega arith in
    let w = c.requires.0.two h (omega arith) in
    again-ends c.args.s.now c.args.usual.second c.args.t.now c.in-More.k w.m w.quoted-too w.closes (c.stands-2.ensures c.if-stands.true)

pub returns-then-stands : goal.returns-then-stands
returns-then-stands c =
    let h : 0 < c.args.usual.end = omega arith in
    λ e. couple-fits
    c.args.s.now
    c.args.values
    c.args.t.now
    c.args.columns
    (c.requires.0.two h (omega arith))
    (c.stands.ensures c.if-not-stands.false)
    c.in-More.k
    c.in-More.ensures
    (c.stands-2.ensures c.if-stands.true)
    (c.closed_at-then-stands.ensures e)
