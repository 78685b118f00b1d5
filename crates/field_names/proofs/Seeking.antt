-- The place of a name among distinct ones: it is found at the place of the name that it is.
use mathlib.Core.Path.{◌≡◌, refl, ap, ◌∙◌}
use mathlib.Core.Bool.{Bool, true, false}
use mathlib.Core.List.{List, [], ◌∷◌}
use Prim.Native.Nat.{ℕ, zero, suc, ◌≤◌, ◌<◌}
use native.Mathlib.Omega.{arith}
use borrow.Author.Tests.{eq-eqb, eqb-true}
use lib.Dec.{eqb}
use lib.ListN.{length, get_or}
use Rattle.rules.specs.Bytes.{Bytes, same, holds, distinct}
use Rattle.rules.proofs.Tests.{by, tests-equal}
use Rattle.rules.proofs.Order.{same_true, same_false, eq-same, ne_same}
use Rattle.rules.proofs.Holding.{holds-head, holds-past, holds-false, distinct_head, distinct_tail}
use Rattle.field_names.specs.Kinds.{seek}

module _ (name k : Bytes) (ks : List Bytes) where
  pub seek-here : same name k ≡ true → seek name (k ∷ ks) ≡ 0
  unfolding seek
  seek-here e = rw (seek, e)

  pub seek-past : same name k ≡ false → seek name (k ∷ ks) ≡ suc (seek name ks)
  unfolding seek
  seek-past e = rw (seek, e)

-- the same by the tests made so far
pub seek-none : (name : Bytes) → seek name [] ≡ 0
unfolding seek
seek-none name = refl

pub seek-then : (name k : Bytes) (ks : List Bytes) {n : ℕ} → same name k ≡ false → seek name ks ≡ n → seek name (k ∷ ks) ≡ suc n
seek-then name k ks e f = seek-past name k ks e ∙ ap suc f

pub seek-most : (name : Bytes) (ks : List Bytes) → seek name ks ≤ length ks
seek-most name [] = omega (arith, seek-none name)
seek-most name (k ∷ ks) = by (same name k) (λ e. omega (arith, seek-here name k ks e)) (λ e. omega (arith, seek-past name k ks e, seek-most name ks))

-- a name found at k is the k-th
pub seek_found : (name : Bytes) (ks : List Bytes) (k : ℕ) → k < length ks → seek name ks ≡ k → name ≡ get_or ks k []
seek_found name [] k h e = absurd (omega arith)
seek_found name (w ∷ ks) k h e = go k h (seek_found name ks) (same name w) refl e
  where
    go : (k : ℕ) → k < suc (length ks) → ((k : ℕ) → k < length ks → seek name ks ≡ k → name ≡ get_or ks k []) → (b : Bool) → same name w ≡ b
        → seek name (w ∷ ks) ≡ k → name ≡ get_or (w ∷ ks) k []
    go zero h ih true p e = same_true name w p
    go zero h ih false p e = absurd (omega (arith, seek-past name w ks p, e))
    go (suc j) h ih true p e = absurd (omega (arith, seek-here name w ks p, e))
    go (suc j) h ih false p e = ih j (omega arith) (omega (arith, seek-past name w ks p, e))

-- a name that is none of them is found behind them all
pub seek-absent : (name : Bytes) (ks : List Bytes) → ((k : ℕ) → k < length ks → name ≡ get_or ks k [] → ⊥) → seek name ks ≡ length ks
seek-absent name [] f = seek-none name
seek-absent name (w ∷ ks) f = seek-then name w ks (ne_same name w (f 0 (omega arith))) (seek-absent name ks (λ k h. f (suc k) (omega arith)))

-- among distinct names the k-th is found at k
pub seek-place : (ks : List Bytes) (k : ℕ) → distinct ks ≡ true → k < length ks → seek (get_or ks k []) ks ≡ k
seek-place [] k d h = absurd (omega arith)
seek-place (w ∷ ks) zero d h = seek-here w w ks (eq-same refl)
seek-place (w ∷ ks) (suc j) d h =
    seek-past (get_or ks j []) w ks (ne_same (get_or ks j []) w (holds-false w ks (distinct_head w ks d) j (omega arith)))
    ∙ ap suc (seek-place ks j (distinct_tail w ks d) (omega arith))

pub seek_is : (name : Bytes) (ks : List Bytes) (k : ℕ) → distinct ks ≡ true → k < length ks → eqb (seek name ks) k ≡ same name (get_or ks k [])
seek_is name ks k d h = tests-equal (eqb (seek name ks) k) (same name (get_or ks k []))
    (λ p. eq-same (seek_found name ks k h (eqb-true (seek name ks) k p)))
    (λ p. eq-eqb (seek name ks) k (ap (λ (x : Bytes). seek x ks) (same_true name (get_or ks k []) p) ∙ seek-place ks k d h))

-- ---- the same of a name that is held

pub holds-none : (name : Bytes) → holds name [] ≡ false
unfolding holds
holds-none name = refl

pub holds-here : (name k : Bytes) (ks : List Bytes) → same name k ≡ true → holds name (k ∷ ks) ≡ true
holds-here name k ks e = holds-head name k ks (same_true name k e)

pub holds_then : (name k : Bytes) (ks : List Bytes) {b : Bool} → same name k ≡ false → holds name ks ≡ b → holds name (k ∷ ks) ≡ b
holds_then name k ks e f = holds-past name k ks (same_false name k e) ∙ f
