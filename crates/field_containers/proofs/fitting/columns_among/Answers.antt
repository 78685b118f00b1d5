-- `columns_among` meets its contract. The loop keeps that all strings are among the names where those that are left are; what is left gets shorter.
use mathlib.Core.Path.{refl, sym, ap, ◌∙◌}
use Prim.Native.Nat.{◌+◌, ◌≤◌}
use native.Mathlib.Omega.{arith}
use lib.ListN.{length}
use Rattle.rules.specs.Bytes.{all_among}
use Rattle.rules.proofs.Asking.{known-not, known-last, known_more}
use Rattle.field_names.specs.Spelled.{name_in}
use Rattle.field_containers.specs.Strung.{Listed, Onward}
use Rattle.field_containers.proofs.Walking.{listed-neither, listed-closed, listed_more}
use Rattle.field_containers.proofs.Walking.{onward-none, onward-neither, onward-closed, onward-first, onward-more}
use Rattle.field_containers.proofs.fitting.columns_among.Goals as goal

pub loop-n-init : goal.loop-n-init
loop-n-init c =
    let f = c.in-More.ensures in
    (f.2, λ xs w ys l. (ys, refl, listed_more c.args.t.now c.args.columns ys l c.in-More.first f))

pub read_name-requires : goal.read_name-requires
read_name-requires c = c.loop-n.invariant.0

pub returns-in_default : goal.returns-in_default
returns-in_default c =
    λ xs ys w l. let (left, e, o) = c.loop-n.invariant.1 xs w ys l in
    onward-none c.args.t.now c.loop-n.i left o c.in_default.ensures

pub name_held-requires : goal.name_held-requires
name_held-requires c =
    let q = c.in-Some.ensures in
    (c.requires.1, c.requires.2, record { end = c.in-Some.n.end; closed = q.named.closed })

pub closing-requires : goal.closing-requires
closing-requires c =
    let q = c.in-Some.ensures in q.named.within

pub returns-in-Neither-closing : goal.returns-in-Neither-closing
returns-in-Neither-closing c =
    λ xs ys w l. let (left, e, o) = c.loop-n.invariant.1 xs w ys l in
    onward-neither
    c.args.t.now
    c.loop-n.i
    left o
    c.in-Some.n
    c.in-Some.ensures
    c.in-Neither-closing.ensures

pub returns-in-Closed-closing : goal.returns-in-Closed-closing
returns-in-Closed-closing c =
    λ xs ys w l. known-last (Listed c.args.t.now c.args.columns) (Onward c.args.t.now) c.loop-n.i (name_in c.args.t.now c.in-Some.n) xs
    (c.loop-n.invariant.1 xs w) (sym (c.name_held.ensures xs w) ∙ c.if-name_held.true)
    (λ left o. onward-closed c.args.t.now c.loop-n.i left o c.in-Some.n c.in-Some.ensures
    c.in-Closed-closing.ensures)
    ys l

pub loop-n-smaller : goal.loop-n-smaller
loop-n-smaller c =
    let q = c.in-Some.ensures in
    let f = c.in-More-closing.ensures in
    let low : c.loop-n.i + 1 ≤ c.in-Some.n.at = q.from in
    let mid : c.in-Some.n.at + 1 ≤ c.in-Some.n.end = q.named.from in
    let high : c.in-Some.n.end + 1 ≤ c.in-More-closing.k = f.1 in
    let within : c.in-More-closing.k ≤ length c.args.t.now = f.2 in
    omega arith

pub loop-n-preserved : goal.loop-n-preserved
loop-n-preserved c =
    let f = c.in-More-closing.ensures in (
      f.2,
      λ xs w. known_more (Listed c.args.t.now c.args.columns) (Onward c.args.t.now) c.loop-n.i (name_in c.args.t.now c.in-Some.n) xs (c.loop-n.invariant.1 xs w)
          (sym (c.name_held.ensures xs w) ∙ c.if-name_held.true) c.in-More-closing.k
          (λ left o. onward-more c.args.t.now c.loop-n.i left o c.in-Some.n c.in-Some.ensures c.in-More-closing.k f),
    )

pub returns-else-name_held : goal.returns-else-name_held
returns-else-name_held c =
    λ xs ys w l. known-not (Listed c.args.t.now c.args.columns) (Onward c.args.t.now) c.loop-n.i (name_in c.args.t.now c.in-Some.n) xs
    (c.loop-n.invariant.1 xs w) (λ left o. onward-first c.args.t.now c.loop-n.i left o c.in-Some.n c.in-Some.ensures)
    (sym (c.name_held.ensures xs w) ∙ c.if-name_held.false) ys l

pub returns-in-Neither : goal.returns-in-Neither
returns-in-Neither c =
    λ xs ys w l. listed-neither c.args.t.now c.args.columns ys l c.in-Neither.ensures

pub returns-in-Closed : goal.returns-in-Closed
unfolding all_among
returns-in-Closed c =
    λ xs ys w l. sym (ap (all_among xs)
    (listed-closed c.args.t.now c.args.columns ys l c.in-Closed.ensures))
