-- `string_is` meets its contract. As far as it went the string and the key are the same bytes.
use mathlib.Core.Logic.{inl, inr}
use mathlib.Core.Path.{◌≡◌, sym, ap, ◌∙◌}
use native.Mathlib.Omega.{arith}
use Prim.Native.Nat.{ℕ, ◌+◌}
use lib.ListN.{length, drop}
use Rattle.rules.specs.Bytes.{Bytes, same}
use Rattle.json_strings.specs.Flat.{flat}
use Rattle.json_strings.proofs.Ahead.{flat-ended, flat-at-quote, flat-at-itself}
use Rattle.rules.proofs.Keys.{same_ends, same_next, same_differs}
use Rattle.json_strings.proofs.Raw.{well-flat, well-within}
use Rattle.json_strings.proofs.single.string_is.Goals as goal

pub loop-k-init : goal.loop-k-init
loop-k-init c =
    let place : c.args.at + 0 ≡ c.args.at = omega arith in
    let whole = ap (λ (x : Bytes). same x c.args.key.now) (well-flat c.requires) in
    (omega (arith, well-within c.requires), ap (λ (i : ℕ). same (flat (drop i c.args.s.now)) c.args.key.now) place ∙ whole)

pub overflow_add-i : goal.overflow_add-i
overflow_add-i c = omega arith

pub returns-then-s-i : goal.returns-then-s-i
returns-then-s-i c =
    sym (same_ends _ c.args.key.now c.loop-k.k c.loop-k-test.true (flat-ended c.args.s.now _ c.if-s-i.true)) ∙ c.loop-k.invariant.1

pub returns-then-b-eq-BACKSLASH : goal.returns-then-b-eq-BACKSLASH
returns-then-b-eq-BACKSLASH c = c.key_follows.ensures ∙ c.loop-k.invariant.1

pub returns-then-b-eq-QUOTE : goal.returns-then-b-eq-QUOTE
returns-then-b-eq-QUOTE c =
    let itself = flat-at-itself c.args.s.now (c.args.at + c.loop-k.k) c.if-s-i.false in
    elim c.then-b-eq-QUOTE.either [
      | inl q ↦ sym (same_ends _ c.args.key.now c.loop-k.k c.loop-k-test.true (flat-at-quote c.args.s.now _ c.if-s-i.false q)) ∙ c.loop-k.invariant.1
      | inr d ↦ sym (same_differs _ c.args.key.now c.loop-k.k c.loop-k-test.true (itself d.0 c.if-b-eq-BACKSLASH.false) d.1) ∙ c.loop-k.invariant.1
    ]

pub loop-k-preserved : goal.loop-k-preserved
loop-k-preserved c =
    let itself = flat-at-itself c.args.s.now _ c.if-s-i.false c.if-b-eq-QUOTE.false c.if-b-eq-BACKSLASH.false in
    let next : c.args.at + c.loop-k.k + 1 ≡ c.args.at + (c.loop-k.k + 1) = omega arith in (
      omega arith,
      ap (λ (i : ℕ). same (flat (drop i c.args.s.now)) (drop (c.loop-k.k + 1) c.args.key.now)) (sym next)
          ∙ sym (same_next _ c.args.key.now c.loop-k.k c.loop-k-test.true itself c.if-b-x.false)
          ∙ c.loop-k.invariant.1,
    )

pub overflow_add-at : goal.overflow_add-at
overflow_add-at c = omega arith

pub key_follows-requires-2 : goal.key_follows-requires-2
key_follows-requires-2 c = (omega arith, omega arith)

pub returns : goal.returns
returns c =
    let end : length c.args.key.now ≡ c.loop-k.k = omega arith in
    c.key_follows-2.ensures ∙ ap (λ (k : ℕ). same (flat (drop (c.args.at + k) c.args.s.now)) (drop k c.args.key.now)) end ∙ c.loop-k.invariant.1
