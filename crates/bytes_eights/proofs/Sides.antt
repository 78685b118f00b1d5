-- Laws of what two texts have in common.
use Rattle.std.proofs.Common.{◌≡◌, ℕ, ◌+◌, ◌-◌, ◌<◌, ◌≤◌, ltb, List, get_or, sym, ap, ◌∙◌, arith, ltb-false, ltb-true}
use lib.Bits.{bit_xor}
use Rattle.rules.proofs.Tests.{by}
use Rattle.bytes_eights.specs.Alike.{Alike, Common}
use Rattle.bytes_eights.specs.Words.{Eight, zeros}
use Rattle.bytes_eights.proofs.Words.{zeros-le, same-xor, xor-differs}

module _ (s : List ℕ) (i : ℕ) (t : List ℕ) (j : ℕ) where
  pub alike-none : Alike s i t j 0
  alike-none k h = absurd (omega arith)

  pub alike-less : (n m : ℕ) → m ≤ n → Alike s i t j n → Alike s i t j m
  alike-less n m l a k h = a k (omega arith)

  -- what two numbers have in common, the texts have whose bytes they are
  pub common-eight : (a b n : ℕ) → Eight a s i → Eight b t j → n ≡ zeros (bit_xor a b) → Common s i t j 8 n
  common-eight a b n f g e =
      let few : n ≤ 8 = omega (arith, zeros-le (bit_xor a b)) in (
        few,
        λ k h. sym (f k (omega arith)) ∙ same-xor a b k (omega arith) ∙ g k (omega arith),
        λ h d. xor-differs a b n e h (f n h ∙ d ∙ sym (g n h)),
      )

  pub alike-joined : (n m : ℕ) → Alike s i t j n → Alike s (i + n) t (j + n) m → Alike s i t j (n + m)
  alike-joined n m a b k h = by (ltb k n) (λ y. a k (ltb-true k n y)) (λ y. later (ltb-false k n y))
    where
      later : n ≤ k → get_or s (i + k) 0 ≡ get_or t (j + k) 0
      later l = ap (λ (x : ℕ). get_or s x 0) (omega arith) ∙ b (k - n) (omega arith) ∙ ap (λ (x : ℕ). get_or t x 0) (omega arith)

  -- n bytes in common, and all that the texts have in common behind them, where that ends within the room
  pub common-joined : (n m few room : ℕ) → Alike s i t j n → Common s (i + n) t (j + n) few m → n + few ≤ room → (n + m < room → m < few)
      → Common s i t j room (n + m)
  common-joined n m few room a b l within = (
    omega (arith, b.0),
    alike-joined n m a b.1,
    λ h d. b.2 (within h) (ap (λ (x : ℕ). get_or s x 0) (omega arith) ∙ d ∙ ap (λ (x : ℕ). get_or t x 0) (omega arith)),
  )
