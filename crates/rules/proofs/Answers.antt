-- Answers made from others: where both begin with the same, the whole is the same; what a refusal of the whole came from.
use mathlib.Core.Path.{◌≡◌, refl, ap}
use mathlib.Core.Logic.{◌⊎◌, inl, inr}
use mathlib.Core.Bool.{Bool, true, false}
use Rattle.std.specs.Prelude.{Option, None, Some}
use Prim.Native.Nat.{ℕ}
use Rattle.rules.specs.Refusals.{◌>>=◌, Refusal, Answer, accepted, refused, or_refuse, require}
use Rattle.rules.specs.Same.{SameAnswer, both-accepted, both-refused}
use Rattle.rules.proofs.Tests.{apart}

-- ---- the same

module _ {A B : Type 0} {Same : A → A → Type 0} {Same' : B → B → Type 0} where
  pub same-bind : {x y : Answer A} (f g : A → Answer B) → SameAnswer Same x y → ((a b : A) → Same a b → SameAnswer Same' (f a) (g b))
      → SameAnswer Same' (x >>= f) (y >>= g)
  same-bind f g (both-accepted {a} {b} h) k = k a b h
  same-bind f g (both-refused e) k = both-refused e

module _ {A B : Type 0} {Same : B → B → Type 0} where
  -- one value is there or missing for both, and refused by the same number
  pub same-or_refuse : (r s : Refusal) → r.number ≡ s.number → (o : Option A) (f g : A → Answer B) → ((a : A) → SameAnswer Same (f a) (g a))
      → SameAnswer Same (or_refuse r o >>= f) (or_refuse s o >>= g)
  same-or_refuse r s e None f g k = both-refused e
  same-or_refuse r s e (Some a) f g k = k a

module _ {B : Type 0} {Same : B → B → Type 0} where
  pub same-require : (r s : Refusal) → r.number ≡ s.number → (b : Bool) (x y : Answer B) → SameAnswer Same x y
      → SameAnswer Same (require r b >>= (λ _. x)) (require s b >>= (λ _. y))
  same-require r s e true x y h = h
  same-require r s e false x y h = both-refused e

-- ---- what is accepted

pub accepted-same : {A : Type 0} {a b : A} → accepted a ≡ accepted b → a ≡ b
accepted-same e = cc

-- ---- what is refused

-- 0 where accepted, and else the refusal's number
unfoldable pub number_of : {A : Type 0} → Answer A → ℕ
number_of (accepted a) = 0
number_of (refused r) = r.number

pub refused-number : {A : Type 0} {r s : Refusal} → ◌≡◌ {A = Answer A} (refused r) (refused s) → r.number ≡ s.number
unfolding number_of
refused-number e = ap number_of e

-- a whole that is refused was refused at its beginning, or behind it
pub bind-refused : {A B : Type 0} (a : Answer A) (f : A → Answer B) {r : Refusal} → (a >>= f) ≡ refused r
    → (a ≡ refused r) ⊎ ((x : A) × (a ≡ accepted x) × (f x ≡ refused r))
bind-refused (accepted x) f e = inr (x, refl, e)
bind-refused (refused s) f e = inl (cc)

pub or_refuse-refused : {A : Type 0} (r : Refusal) (o : Option A) {s : Refusal} → or_refuse r o ≡ refused s → (o ≡ None) × (r ≡ s)
or_refuse-refused r None e = (refl, cc)
or_refuse-refused r (Some a) e = apart (cc)

pub require-refused : (r : Refusal) (b : Bool) {s : Refusal} → require r b ≡ refused s → (b ≡ false) × (r ≡ s)
require-refused r true e = apart (cc)
require-refused r false e = (refl, cc)

pub or_refuse-accepted : {A : Type 0} (r : Refusal) (o : Option A) {a : A} → or_refuse r o ≡ accepted a → o ≡ Some a
or_refuse-accepted r None e = apart (cc)
or_refuse-accepted r (Some x) e = cc
