-- `names_among` meets its contract. The loop keeps that all names are among the strings where those that are left are; what is left gets shorter.
use mathlib.Core.Path.{refl, sym, ap, ◌∙◌}
use Prim.Native.Nat.{◌+◌, ◌≤◌}
use native.Mathlib.Omega.{arith}
use lib.ListN.{length}
use Rattle.rules.specs.Bytes.{all_among}
use Rattle.rules.proofs.Asking.{known-not, known-last, known_more}
use Rattle.field_names.specs.Spelled.{name_in}
use Rattle.field_objects.specs.Namings.{Object, Members}
use Rattle.field_objects.proofs.Meeting.{object-neither, object-closed, object-more}
use Rattle.field_objects.proofs.Meeting.{members-none, members-neither, members-closed, members-first, members-more}
use Rattle.field_containers.proofs.fitting.names_among.Goals as goal

pub loop-n-init : goal.loop-n-init
loop-n-init c =
    let f = c.in-More.ensures in
    (f.2, λ ys l xs w. (xs, refl, object-more 29 c.args.s.now c.args.values xs w c.in-More.first f))

pub read_member-requires : goal.read_member-requires
read_member-requires c = c.loop-n.invariant.0

pub returns-in_default : goal.returns-in_default
returns-in_default c =
    λ xs ys w l. let (left, e, o) = c.loop-n.invariant.1 ys l xs w in
    members-none 29 c.args.s.now c.loop-n.i left o c.in_default.ensures

pub holds_string-requires : goal.holds_string-requires
holds_string-requires c =
    let m = c.in-Some.ensures in
    (c.requires.1, record { end = c.in-Some.n.end; closed = m.named.closed }, c.requires.2)

pub closing-requires : goal.closing-requires
closing-requires c =
    let m = c.in-Some.ensures in m.within

pub returns-in-Neither-closing : goal.returns-in-Neither-closing
returns-in-Neither-closing c =
    λ xs ys w l. let (left, e, o) = c.loop-n.invariant.1 ys l xs w in
    members-neither 29
    c.args.s.now
    c.loop-n.i
    left o
    c.in-Some.n
    c.in-Some.field-0-1
    c.in-Some.e
    c.in-Some.ensures
    c.in-Neither-closing.ensures

pub returns-in-Closed-closing : goal.returns-in-Closed-closing
returns-in-Closed-closing c =
    λ xs ys w l. known-last (Object 29 c.args.s.now c.args.values) (Members 29 c.args.s.now) c.loop-n.i (name_in c.args.s.now c.in-Some.n) ys
    (c.loop-n.invariant.1 ys l) (sym (c.holds_string.ensures ys l) ∙ c.if-holds_string.true)
    (λ left o. members-closed 29 c.args.s.now c.loop-n.i left o c.in-Some.n c.in-Some.field-0-1 c.in-Some.e c.in-Some.ensures
    c.in-Closed-closing.ensures)
    xs w

pub loop-n-smaller : goal.loop-n-smaller
loop-n-smaller c =
    let m = c.in-Some.ensures in
    let f = c.in-More-closing.ensures in
    let low : c.loop-n.i + 1 ≤ c.in-Some.field-0-1 = m.from in
    let mid : c.in-Some.field-0-1 ≤ c.in-Some.e = m.ordered in
    let high : c.in-Some.e + 1 ≤ c.in-More-closing.k = f.1 in
    let within : c.in-More-closing.k ≤ length c.args.s.now = f.2 in
    omega arith

pub loop-n-preserved : goal.loop-n-preserved
loop-n-preserved c =
    let f = c.in-More-closing.ensures in (
      f.2,
      λ ys l. known_more (Object 29 c.args.s.now c.args.values) (Members 29 c.args.s.now) c.loop-n.i (name_in c.args.s.now c.in-Some.n) ys
          (c.loop-n.invariant.1 ys l) (sym (c.holds_string.ensures ys l) ∙ c.if-holds_string.true) c.in-More-closing.k
          (λ left o. members-more 29 c.args.s.now c.loop-n.i left o c.in-Some.n c.in-Some.field-0-1 c.in-Some.e c.in-Some.ensures c.in-More-closing.k f),
    )

pub returns-else-holds_string : goal.returns-else-holds_string
returns-else-holds_string c =
    λ xs ys w l. known-not (Object 29 c.args.s.now c.args.values) (Members 29 c.args.s.now) c.loop-n.i (name_in c.args.s.now c.in-Some.n) ys
    (c.loop-n.invariant.1 ys l) (λ left o. members-first 29 c.args.s.now c.loop-n.i left o c.in-Some.n c.in-Some.field-0-1 c.in-Some.e
    c.in-Some.ensures)
    (sym (c.holds_string.ensures ys l) ∙ c.if-holds_string.false) xs w

pub returns-in-Neither : goal.returns-in-Neither
returns-in-Neither c =
    λ xs ys w l. object-neither 29 c.args.s.now c.args.values xs w c.in-Neither.ensures

pub returns-in-Closed : goal.returns-in-Closed
unfolding all_among
returns-in-Closed c =
    λ xs ys w l. sym (ap (all_among ys)
    (object-closed 29 c.args.s.now c.args.values xs w c.in-Closed.ensures))
