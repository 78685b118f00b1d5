-- How two numbers stand to each other, by their signs and sizes.
use mathlib.Core.Path.{◌≡◌, refl, sym, ap, ◌∙◌}
use mathlib.Core.Bool.{Bool, true, false}
use mathlib.Core.Logic.{◌⊎◌, inl, inr}
use Prim.Native.Nat.{ℕ, zero, suc, ◌≤◌, ◌<◌}
use native.Mathlib.Omega.{arith}
use lib.IntN.{pos, negsuc, neg_ℤ}
use borrow.Author.Tests.{lt-ltb, le-ltb}
use Rattle.std.specs.Ordering.{nat_cmp}
use Rattle.std.proofs.lemmas.Cmp.{by_ranked, ranked}
use Rattle.bytes_values.specs.Answers.{order_is}
use Rattle.rules.specs.Bytes.{less, equal, more}
use Rattle.rules.specs.Picking.{order_of_numbers}
use Rattle.rules.proofs.Order.{trichotomy}
use Rattle.query_numbers.specs.Answers.{signed_as, signed_is}
use Rattle.query_numbers.specs.declared.Signed.{Signed}

-- ---- sizes

module _ (a b : ℕ) where
  pub sizes-less : a < b → order_of_numbers (pos a) (pos b) ≡ less
  unfolding order_of_numbers
  sizes-less h = rw (order_of_numbers, lt-ltb a b h)

  pub sizes-more : b < a → order_of_numbers (pos a) (pos b) ≡ more
  unfolding order_of_numbers
  sizes-more h = let g : b ≤ a = omega arith in rw (order_of_numbers, le-ltb a b g, lt-ltb b a h)

  pub sizes-equal : b ≤ a → a ≤ b → order_of_numbers (pos a) (pos b) ≡ equal
  unfolding order_of_numbers
  sizes-equal g h = rw (order_of_numbers, le-ltb a b g, le-ltb b a h)

  -- as std puts numbers in order
  pub sizes-order : nat_cmp a b ≡ order_is (order_of_numbers (pos a) (pos b))
  unfolding order_is
  sizes-order =
      by_ranked (a < b) (a ≡ b) (b < a) (nat_cmp a b) (ranked a b (nat_cmp a b) refl)
      (λ e h. e ∙ ap order_is (sym (sizes-less h)))
      (λ e h. e ∙ ap order_is (sym (sizes-equal (omega arith) (omega arith))))
      (λ e h. e ∙ ap order_is (sym (sizes-more h)))

-- ---- signs

pub signed_of : (s : Signed) {x : Bool} → s.negative ≡ x → signed_is s ≡ signed_as x s.size
unfolding signed_is
signed_of s e = ap (λ (x : Bool). signed_as x s.size) e

-- of two negative numbers the larger size is the less
negatives : (a b : ℕ) → order_of_numbers (negsuc a) (negsuc b) ≡ order_of_numbers (pos (suc b)) (pos (suc a))
unfolding order_of_numbers
negatives a b = go (trichotomy a b)
  where
    go : (a < b) ⊎ ((b < a) ⊎ (a ≡ b)) → order_of_numbers (negsuc a) (negsuc b) ≡ order_of_numbers (pos (suc b)) (pos (suc a))
    go (inl h) =
        let g : a ≤ b = omega arith in
        rw (order_of_numbers, le-ltb b a g, lt-ltb a b h) (sym (sizes-more (suc b) (suc a) (omega arith)))
    go (inr (inl h)) = rw (order_of_numbers, lt-ltb b a h) (sym (sizes-less (suc b) (suc a) (omega arith)))
    go (inr (inr e)) =
        let g : a ≤ b = omega arith in
        let h : b ≤ a = omega arith in
        rw (order_of_numbers, le-ltb b a g, le-ltb a b h) (sym (sizes-equal (suc b) (suc a) (omega arith) (omega arith)))

both_negative : (a b : ℕ) → order_of_numbers (neg_ℤ (pos a)) (neg_ℤ (pos b)) ≡ order_of_numbers (pos b) (pos a)
unfolding order_of_numbers
both_negative zero zero = refl
both_negative zero (suc b) = sym (sizes-more (suc b) 0 (omega arith))
both_negative (suc a) zero = sym (sizes-less 0 (suc a) (omega arith))
both_negative (suc a) (suc b) = negatives a b

module _ (s t : Signed) where
  pub numbers-negative : s.negative ≡ true → t.negative ≡ true → order_of_numbers (signed_is s) (signed_is t) ≡ order_of_numbers (pos t.size) (pos s.size)
  unfolding signed_as
  numbers-negative e f = rw (signed_of s e, signed_of t f) (both_negative s.size t.size)

  pub numbers-positive : s.negative ≡ false → t.negative ≡ false → order_of_numbers (signed_is s) (signed_is t) ≡ order_of_numbers (pos s.size) (pos t.size)
  unfolding signed_as
  numbers-positive e f = rw (signed_of s e, signed_of t f)

  -- a zero with a minus is zero
  pub numbers-zeros : s.size ≡ 0 → t.size ≡ 0 → order_of_numbers (signed_is s) (signed_is t) ≡ equal
  unfolding signed_is signed_as order_of_numbers
  numbers-zeros y z = rw (y, z) (go s.negative t.negative)
    where
      go : (a b : Bool) → order_of_numbers (signed_as a 0) (signed_as b 0) ≡ equal
      go true true = refl
      go true false = refl
      go false true = refl
      go false false = refl

  pub numbers-less : s.negative ≡ true → t.negative ≡ false → (s.size ≡ 0 → t.size ≡ 0 → ⊥) → order_of_numbers (signed_is s) (signed_is t) ≡ less
  unfolding signed_as order_of_numbers
  numbers-less e f h = rw (signed_of s e, signed_of t f) (go s.size h)
    where
      go : (n : ℕ) → (n ≡ 0 → t.size ≡ 0 → ⊥) → order_of_numbers (neg_ℤ (pos n)) (pos t.size) ≡ less
      go zero k = let l : t.size ≡ 0 → ⊥ = k refl in sizes-less 0 t.size (omega arith)
      go (suc n) k = refl

  pub numbers_more : s.negative ≡ false → t.negative ≡ true → (s.size ≡ 0 → t.size ≡ 0 → ⊥) → order_of_numbers (signed_is s) (signed_is t) ≡ more
  unfolding signed_as order_of_numbers
  numbers_more e f h = rw (signed_of s e, signed_of t f) (go t.size (λ z y. h y z))
    where
      go : (n : ℕ) → (n ≡ 0 → s.size ≡ 0 → ⊥) → order_of_numbers (pos s.size) (neg_ℤ (pos n)) ≡ more
      go zero k = let l : s.size ≡ 0 → ⊥ = k refl in sizes-more s.size 0 (omega arith)
      go (suc n) k = refl
