-- What tests joined by `&&`, `||` and `not` tell by their parts, and the other way: for rules that are such joins.
-- Tests of numbers (`eqb-true`, `lt-ltb`, …) are in borrow.Author.Tests.
use mathlib.Core.Path.{◌≡◌, refl, sym, ◌∙◌}
use mathlib.Core.Logic.{◌⊎◌, inl, inr}
use mathlib.Core.Bool.{Bool, true, false, ◌&&◌, ◌||◌, not, true≢false, false≢true}
use Prim.Native.Nat.{ℕ}
use native.Mathlib.Omega.{arith}

-- two constructors are never equal: where a premise says so, `apart (cc)`
pub apart {ℓ} : {B : Type ℓ} → ◌≡◌ {A = ℕ} 0 1 → B
apart z = absurd (omega arith)

-- ---- one test

-- by its two answers
pub by : {P : Type 0} (test : Bool) → (test ≡ true → P) → (test ≡ false → P) → P
by true f g = f refl
by false f g = g refl

pub true-not-false : {b : Bool} → b ≡ true → b ≡ false → ⊥
true-not-false t f = true≢false (sym t ∙ f)

pub false_of : (b : Bool) → (b ≡ true → ⊥) → b ≡ false
false_of true h = absurd (h refl)
false_of false h = refl

pub true_of : (b : Bool) → (b ≡ false → ⊥) → b ≡ true
true_of true h = refl
true_of false h = absurd (h refl)

pub not-of-true : {b : Bool} → b ≡ true → not b ≡ false
not-of-true e = rw e

pub not_of_false : {b : Bool} → b ≡ false → not b ≡ true
not_of_false e = rw e

-- two tests that pass together are equal
pub tests-equal : (a b : Bool) → (a ≡ true → b ≡ true) → (b ≡ true → a ≡ true) → a ≡ b
tests-equal true b f g = sym (f refl)
tests-equal false true f g = g refl
tests-equal false false f g = refl

-- ---- two tests joined

pub and_left : (a b : Bool) → (a && b) ≡ true → a ≡ true
and_left true b e = refl
and_left false b e = e

pub and_right : (a b : Bool) → (a && b) ≡ true → b ≡ true
and_right true b e = e
and_right false b e = absurd (false≢true e)

pub and_both : {a b : Bool} → a ≡ true → b ≡ true → (a && b) ≡ true
and_both p q = rw (p, q)

pub and-fails-left : {a : Bool} (b : Bool) → a ≡ false → (a && b) ≡ false
and-fails-left b p = rw p

pub and-fails-right : (a : Bool) {b : Bool} → b ≡ false → (a && b) ≡ false
and-fails-right true q = q
and-fails-right false q = refl

pub or_left : {a : Bool} (b : Bool) → a ≡ true → (a || b) ≡ true
or_left b p = rw p

pub or_right : (a : Bool) {b : Bool} → b ≡ true → (a || b) ≡ true
or_right true q = refl
or_right false q = q

pub or_cases : (a b : Bool) → (a || b) ≡ true → (a ≡ true) ⊎ (b ≡ true)
or_cases true b e = inl refl
or_cases false b e = inr e

pub or-fails-left : (a b : Bool) → (a || b) ≡ false → a ≡ false
or-fails-left true b e = e
or-fails-left false b e = refl

pub or-fails-right : (a b : Bool) → (a || b) ≡ false → b ≡ false
or-fails-right true b e = absurd (true≢false e)
or-fails-right false b e = e

pub or-fails : {a b : Bool} → a ≡ false → b ≡ false → (a || b) ≡ false
or-fails p q = rw (p, q)
