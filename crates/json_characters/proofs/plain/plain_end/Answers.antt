-- `plain_end` meets its contract. A run of plain bytes, and a quote behind it; no other quote closes a string of plain bytes.
use mathlib.Core.Path.{◌≡◌, sym, ap, ◌∙◌, subst}
use native.Mathlib.Omega.{arith}
use Prim.Native.Nat.{ℕ, ◌≤◌}
use lib.ListN.{length, get_or}
use Rattle.json_characters.specs.Runs.{Closing}
use Rattle.json_characters.proofs.Alone.{run-closing}
use Rattle.json_characters.proofs.plain.plain_end.Goals as goal

pub returns-then-s-i : goal.returns-then-s-i
returns-then-s-i c =
    let past : length c.args.s.now ≤ c.skip_plain-i.result = c.if-s-i.true in (
      λ i e. absurd (omega arith),
      λ i x. absurd (omega (arith, run-closing c.args.s.now c.args.at c.skip_plain-i.result i c.skip_plain-i.ensures x, x.1)),
    )

pub returns-then-s-i-eq-QUOTE : goal.returns-then-s-i-eq-QUOTE
returns-then-s-i-eq-QUOTE c =
    let there : Closing c.args.s.now c.args.at c.skip_plain-i.result =
    (c.skip_plain-i.ensures.0, c.if-s-i.false, c.skip_plain-i.ensures.2, c.if-s-i-eq-QUOTE.true) in (
      λ i e. let same : c.skip_plain-i.result ≡ i = omega arith in subst (Closing c.args.s.now c.args.at) same there,
      λ i x. omega (arith, run-closing c.args.s.now c.args.at c.skip_plain-i.result i c.skip_plain-i.ensures x),
    )

pub returns-else-s-i-eq-QUOTE : goal.returns-else-s-i-eq-QUOTE
returns-else-s-i-eq-QUOTE c = (
  λ i e. absurd (omega arith),
  λ i x.
      let here : i ≡ c.skip_plain-i.result = run-closing c.args.s.now c.args.at c.skip_plain-i.result i c.skip_plain-i.ensures x in
      absurd (c.if-s-i-eq-QUOTE.false (ap (λ (k : ℕ). get_or c.args.s.now k 0) (sym here) ∙ x.3)),
)
