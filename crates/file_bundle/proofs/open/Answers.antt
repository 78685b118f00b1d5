-- The rule's tests in its order; a well-formed bundle has as many files as its count says.
use mathlib.Core.Path.{◌≡◌, sym, ◌∙◌}
use lib.ListN.{take}
use Rattle.rules.specs.Numbers.{little}
use Rattle.rules.specs.Bundle.{field}
use Rattle.rules.proofs.Choices.{is_some-true, is_some-false}
use Rattle.file_bundle.proofs.Opening.{bundle-short, bundle-long, bundle-many, bundle-cut, bundle-left, bundle-some}
use Rattle.file_bundle.proofs.open.Goals as goal

pub returns-then-s-lt-COUNT : goal.returns-then-s-lt-COUNT
returns-then-s-lt-COUNT c = is_some-false _ (bundle-short c.args.s.now c.if-s-lt-COUNT.true)

pub returns-then-s-gt-MOST_BYTES : goal.returns-then-s-gt-MOST_BYTES
returns-then-s-gt-MOST_BYTES c = is_some-false _ (bundle-long c.args.s.now c.if-s-gt-MOST_BYTES.true)

pub returns-then-n-gt-MOST_ENTRIES : goal.returns-then-n-gt-MOST_ENTRIES
unfolding field
returns-then-n-gt-MOST_ENTRIES c =
    let count : c.u32_at-n.result ≡ little (take 4 c.args.s.now) = c.u32_at-n.ensures.0 in
    is_some-false _ (bundle-many c.args.s.now c.u32_at-n.result count c.if-s-lt-COUNT.false c.if-s-gt-MOST_BYTES.false c.if-n-gt-MOST_ENTRIES.true)

pub returns-then-s-n : goal.returns-then-s-n
unfolding field
returns-then-s-n c =
    let count : c.u32_at-n.result ≡ little (take 4 c.args.s.now) = c.u32_at-n.ensures.0 in
    is_some-false _
    (bundle-cut c.args.s.now c.u32_at-n.result count c.if-s-lt-COUNT.false c.if-s-gt-MOST_BYTES.false c.if-n-gt-MOST_ENTRIES.false c.if-s-n.true)

pub returns-then-filled : goal.returns-then-filled
unfolding field
returns-then-filled c =
    let count : c.u32_at-n.result ≡ little (take 4 c.args.s.now) = c.u32_at-n.ensures.0 in
    let there = is_some-true _
    (bundle-left c.args.s.now c.u32_at-n.result count c.if-s-lt-COUNT.false c.if-s-gt-MOST_BYTES.false
    c.if-n-gt-MOST_ENTRIES.false c.if-s-n.false ∙ sym c.filled.ensures ∙ c.if-filled.true) in
    (there.0, there.1, (bundle-some c.args.s.now there.0 there.1).count ∙ sym count)

pub returns : goal.returns
unfolding field
returns c =
    let count : c.u32_at-n.result ≡ little (take 4 c.args.s.now) = c.u32_at-n.ensures.0 in
    is_some-false _
    (bundle-left c.args.s.now c.u32_at-n.result count c.if-s-lt-COUNT.false c.if-s-gt-MOST_BYTES.false
    c.if-n-gt-MOST_ENTRIES.false c.if-s-n.false ∙ sym c.filled.ensures ∙ c.if-filled.false)
