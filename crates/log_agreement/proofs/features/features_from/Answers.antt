-- `features_from` meets its contract. The loop keeps that all strings are held where those that are left are; what is left gets shorter.
use mathlib.Core.Path.{sym, ◌∙◌}
use lib.ListN.{drop}
use Rattle.json_strings.specs.Decoded.{decoded}
use Rattle.field_containers.specs.Strung.{Onward}
use Rattle.field_containers.proofs.Walking.{onward-none, onward-first, onward-more}
use Rattle.rules.proofs.Asking.{known-not, known-last, known_more}
use Rattle.log_agreement.proofs.Listing.{onward-last}
use Rattle.log_agreement.proofs.features.features_from.Goals as goal

pub returns-then-not-feature_held : goal.returns-then-not-feature_held
returns-then-not-feature_held c =
    λ xs ys o f.
    known-not (Onward c.args.s.now c.args.at) (Onward c.args.s.now) c.loop-n.i (decoded (drop c.in-Some.n.at c.args.s.now)) ys (c.loop-n.invariant.1 ys f)
    (λ left p. onward-first c.args.s.now c.loop-n.i left p c.in-Some.n c.in-Some.ensures)
    (sym (c.feature_held.ensures ys f) ∙ c.if-not-feature_held.true)
    xs o

pub returns-in_default-closing : goal.returns-in_default-closing
returns-in_default-closing c =
    λ xs ys o f.
    known-last (Onward c.args.s.now c.args.at) (Onward c.args.s.now) c.loop-n.i (decoded (drop c.in-Some.n.at c.args.s.now)) ys (c.loop-n.invariant.1 ys f)
    (sym (c.feature_held.ensures ys f) ∙ c.if-not-feature_held.false)
    (λ left p. onward-last c.args.s.now c.loop-n.i left p c.in-Some.n c.in-Some.ensures c.closing.result c.closing.ensures c.in_default-closing.not-More)
    xs o

pub loop-n-preserved : goal.loop-n-preserved
loop-n-preserved c =
    let f = c.in-More.ensures in (
      f.2,
      λ ys z.
          known_more (Onward c.args.s.now c.args.at) (Onward c.args.s.now) c.loop-n.i (decoded (drop c.in-Some.n.at c.args.s.now)) ys
          (c.loop-n.invariant.1 ys z)
          (sym (c.feature_held.ensures ys z) ∙ c.if-not-feature_held.false)
          c.in-More.k
          (λ left p. onward-more c.args.s.now c.loop-n.i left p c.in-Some.n c.in-Some.ensures c.in-More.k f),
    )

pub returns : goal.returns
returns c =
    λ xs ys o f.
    let (left, e, p) = c.loop-n.invariant.1 ys f xs o in
    onward-none c.args.s.now c.loop-n.i left p c.in_default.ensures
