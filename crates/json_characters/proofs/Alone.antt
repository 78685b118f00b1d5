-- A run of plain bytes ends in one place, and a string of plain bytes is closed in one.
use mathlib.Core.Path.{◌≡◌, refl, sym, ◌∙◌}
use Prim.Native.Nat.{ℕ, zero, suc, ◌≤◌, ◌<◌}
use native.Mathlib.Numerals.{add-one}
use native.Mathlib.Omega.{arith}
use lib.Dec.{ltb}
use lib.ListN.{length}
use borrow.Author.Tests.{ltb-true, ltb-false}
use Rattle.rules.specs.Json.Text.{Text}
use Rattle.rules.proofs.Tests.{by, true-not-false}
use Rattle.json_characters.specs.Runs.{Plains, Run, Closing, Closes}
use Rattle.rules.proofs.Json.Plain.{plain-quote}

module _ (s : Text) (at : ℕ) where
  -- plain bytes go no further than to where a run ends
  run-most : (r q : ℕ) → Run s at r → q ≤ length s → Plains s at q → q ≤ r
  run-most r q h l p = by (ltb r q) (λ t. absurd (met (ltb-true r q t))) (λ u. ltb-false r q u)
    where
      met : r < q → ⊥
      met m = true-not-false (p r h.0 m) (h.3 (omega arith))

  pub run_alone : (r q : ℕ) → Run s at r → Run s at q → r ≡ q
  run_alone r q h k = omega (arith, run-most r q h k.1 k.2, run-most q r k h.1 h.2)

  -- the quote that closes a string of plain bytes is what ends the run
  pub run-closing : (r i : ℕ) → Run s at r → Closing s at i → i ≡ r
  run-closing r i h x =
      let up_to : i ≤ r = run-most r i h (omega (arith, x.1)) x.2 in
      by (ltb i r) (λ t. absurd (plain-quote (h.2 i x.0 (ltb-true i r t)) x.3)) (λ u. omega (arith, ltb-false i r u))

  pub closes-alone : (r q : ℕ) → Closes s at r → Closes s at q → r ≡ q
  closes-alone zero zero h k = refl
  closes-alone zero (suc q) h k = h.1 q (k.0 q (sym (add-one q))) ∙ add-one q
  closes-alone (suc r) q h k = sym (add-one r) ∙ sym (k.1 r (h.0 r (sym (add-one r))))
