-- `strings_or_nulls` meets its contract. The loop keeps that what went by are pairs, and what is left; what is left gets shorter.
use mathlib.Core.Path.{subst}
use Prim.Native.Nat.{◌+◌, ◌≤◌}
use lib.ListN.{length}
use Rattle.rules.specs.Actions.{in_field}
use Rattle.field_scalars.specs.Texts.{Told}
use Rattle.field_containers.proofs.Valued.{member-valued}
use Rattle.field_containers.proofs.Partitions.{paired-neither, paired-empty, paired-start, paired_none}
use Rattle.field_containers.proofs.Partitions.{paired-refused, paired-broken, paired-closed, paired-more}
use native.Mathlib.Omega.{arith}
use Rattle.field_containers.proofs.nested.strings_or_nulls.Goals as goal

pub loop-v-init : goal.loop-v-init
loop-v-init c =
    paired-start
    c.args.s.now
    c.args.at
    c.in-More.first
    c.in-More.ensures

pub read_member-requires : goal.read_member-requires
read_member-requires c = c.loop-v.invariant.passed.within

pub returns-in_default : goal.returns-in_default
unfolding in_field
returns-in_default c =
    λ w. paired_none c.args.s.now c.args.at c.loop-v.i c.loop-v.invariant w c.in_default.ensures

pub string_or_null-requires : goal.string_or_null-requires
unfolding in_field
string_or_null-requires c =
    let m = c.in-Some.ensures in
    (m.ordered, m.within, member-valued in_field _ _ _ m.read)

pub closing-requires : goal.closing-requires
closing-requires c =
    let m = c.in-Some.ensures in m.within

pub returns-in-Neither-closing : goal.returns-in-Neither-closing
unfolding in_field
returns-in-Neither-closing c =
    let m = c.in-Some.ensures in
    λ w. paired-broken
    c.args.s.now
    c.args.at
    c.loop-v.i
    c.loop-v.invariant
    c.in-Some.field-0-0
    c.in-Some.v
    c.in-Some.e
    m w
    c.in-Neither-closing.ensures

pub returns-in-Closed-closing : goal.returns-in-Closed-closing
unfolding in_field
returns-in-Closed-closing c =
    let m = c.in-Some.ensures in
    λ w. paired-closed
    c.args.s.now
    c.args.at
    c.loop-v.i
    c.loop-v.invariant
    c.in-Some.field-0-0
    c.in-Some.v
    c.in-Some.e
    m
    (subst (Told _) c.if-string_or_null.true c.string_or_null.ensures)
    c.in-Closed-closing.ensures
    w

pub loop-v-smaller : goal.loop-v-smaller
loop-v-smaller c =
    let m = c.in-Some.ensures in
    let f = c.in-More-closing.ensures in
    let low : c.loop-v.i + 1 ≤ c.in-Some.v = m.from in
    let mid : c.in-Some.v ≤ c.in-Some.e = m.ordered in
    let high : c.in-Some.e + 1 ≤ c.in-More-closing.k = f.1 in
    let within : c.in-More-closing.k ≤ length c.args.s.now = f.2 in
    omega arith

pub loop-v-preserved : goal.loop-v-preserved
unfolding in_field
loop-v-preserved c =
    let m = c.in-Some.ensures in
    paired-more
    c.args.s.now
    c.args.at
    c.loop-v.i
    c.loop-v.invariant
    c.in-Some.field-0-0
    c.in-Some.v
    c.in-Some.e
    m
    (subst (Told _) c.if-string_or_null.true c.string_or_null.ensures)
    c.in-More-closing.k
    c.in-More-closing.ensures

pub returns-else-string_or_null : goal.returns-else-string_or_null
unfolding in_field
returns-else-string_or_null c =
    let m = c.in-Some.ensures in
    λ w. paired-refused
    c.args.s.now
    c.args.at
    c.loop-v.i
    c.loop-v.invariant
    c.in-Some.field-0-0
    c.in-Some.v
    c.in-Some.e
    m
    (subst (Told _) c.if-string_or_null.false c.string_or_null.ensures)
    w

pub returns-in-Neither : goal.returns-in-Neither
returns-in-Neither c =
    λ w. paired-neither c.args.s.now c.args.at w c.in-Neither.ensures

pub returns-in-Closed : goal.returns-in-Closed
returns-in-Closed c =
    λ w. paired-empty c.args.s.now c.args.at w c.in-Closed.ensures
