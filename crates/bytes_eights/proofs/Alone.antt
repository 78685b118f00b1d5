-- Eight bytes are one number of 64 bits, and what two texts have in common ends in one place.
use Rattle.std.proofs.Common.{◌≡◌, ℕ, zero, suc, ◌*◌, ◌/◌, ◌%◌, ◌^◌, ◌<◌, ◌≤◌, ltb, List, sym, ◌∙◌, pow-suc, arith, ltb-false, ltb-true}
use Rattle.rules.proofs.Tests.{by}
use Rattle.bytes_eights.specs.Alike.{Common}
use Rattle.bytes_eights.specs.Words.{byte, Eight, Same}

bytes-alone : (n a b : ℕ) → a < 256 ^ n → b < 256 ^ n → Same a b n → a ≡ b
unfolding byte
bytes-alone zero a b h k e = omega arith
bytes-alone (suc n) a b h k e =
    let p : 256 ^ suc n ≡ 256 ^ n * 256 = pow-suc 256 n in
    let low : a % 256 ≡ b % 256 = e 0 (omega arith) in
    let high : a / 256 ≡ b / 256 = bytes-alone n (a / 256) (b / 256) (omega arith) (omega arith) (λ k l. e (suc k) (omega arith)) in
    omega arith

pub eight-alone : (s : List ℕ) (i a b : ℕ) → a < 2 ^ 64 → b < 2 ^ 64 → Eight a s i → Eight b s i → a ≡ b
eight-alone s i a b h k f g = bytes-alone 8 a b h k (λ j l. f j l ∙ sym (g j l))

module _ (s : List ℕ) (i : ℕ) (t : List ℕ) (j room : ℕ) where
  common-most : (n m : ℕ) → Common s i t j room n → Common s i t j room m → m ≤ n
  common-most n m h k = by (ltb n m) (λ y. absurd (met (ltb-true n m y))) (λ y. ltb-false n m y)
    where
      met : n < m → ⊥
      met l = h.2 (omega (arith, k.0)) (k.1 n l)

  pub common-alone : (n m : ℕ) → Common s i t j room n → Common s i t j room m → n ≡ m
  common-alone n m h k = omega (arith, common-most n m h k, common-most m n k h)
