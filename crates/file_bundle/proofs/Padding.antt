-- A name and the zeros behind it, byte by byte.
use mathlib.Core.Path.{◌≡◌, refl, sym, ap, ◌∙◌}
use mathlib.Core.Bool.{Bool, true, false, ◌||◌, true≢false}
use Rattle.std.specs.Prelude.{Option, None, Some}
use mathlib.Core.List.{[], ◌∷◌}
use Prim.Native.Nat.{ℕ, zero, suc, ◌+◌, ◌≤◌, ◌<◌}
use native.Mathlib.Nat.{not-suc-le-zero}
use native.Mathlib.Omega.{arith}
use lib.Dec.{eqb, leb}
use lib.ListN.{length, drop, get_or, drop_of_length-le}
use borrow.Author.Tests.{eq-eqb, ne_eqb, eqb-false, le-leb}
use Rattle.facts.proofs.Lists.{drop_here}
use Rattle.rules.specs.Bytes.{Bytes, among, ◌>>=◌, guard, is_some}
use Rattle.rules.specs.Bundle.{zeros, unpadded, name_in}
use Rattle.bytes_eights.specs.Words.{Eight}
use Rattle.bytes_eights.proofs.Words.{byte-zeros, zeros-all}
use Rattle.file_bundle.specs.Files.{name_size, Filled}

-- ---- at place i of p

module _ (p : Bytes) (i : ℕ) (h : i < length p) where
  pub zeros-more : get_or p i 0 ≡ 0 → zeros (drop i p) ≡ zeros (drop (i + 1) p)
  unfolding zeros
  zeros-more e = rw (drop_here p i 0 h, zeros, eq-eqb _ _ e)

  pub zeros-other : (get_or p i 0 ≡ 0 → ⊥) → zeros (drop i p) ≡ false
  unfolding zeros
  zeros-other e = rw (drop_here p i 0 h, zeros, ne_eqb _ _ e)

  pub name_size-here : get_or p i 0 ≡ 0 → name_size (drop i p) ≡ 0
  unfolding name_size
  name_size-here e = rw (drop_here p i 0 h, name_size, eq-eqb _ _ e)

  pub name_size-more : (get_or p i 0 ≡ 0 → ⊥) → name_size (drop i p) ≡ suc (name_size (drop (i + 1) p))
  unfolding name_size
  name_size-more e = rw (drop_here p i 0 h, name_size, ne_eqb _ _ e)

  pub name-more : among 0x21 0x7E (get_or p i 0) ≡ true → is_some (unpadded (drop i p)) ≡ is_some (unpadded (drop (i + 1) p))
  unfolding unpadded is_some
  name-more e = rw (drop_here p i 0 h, unpadded, e) (go (unpadded (drop (i + 1) p)))
    where
      go : (o : Option Bytes) → is_some (o >>= λ name. Some (get_or p i 0 ∷ name)) ≡ is_some o
      go None = refl
      go (Some name) = refl

  pub name-other : among 0x21 0x7E (get_or p i 0) ≡ false → is_some (unpadded (drop i p)) ≡ zeros (drop i p)
  unfolding unpadded is_some
  name-other e = rw (drop_here p i 0 h, unpadded, e) (go (zeros (get_or p i 0 ∷ drop (i + 1) p)))
    where
      go : (z : Bool) → is_some {A = Bytes} (elim z [ true ↦ Some [] | false ↦ None ]) ≡ z
      go true = refl
      go false = refl

-- ---- from place i on, eight at a time

-- as far as there are only zeros
zeros-run : (p : Bytes) (i n : ℕ) → i + n ≤ length p → ((k : ℕ) → k < n → get_or p (i + k) 0 ≡ 0) → zeros (drop i p) ≡ zeros (drop (i + n) p)
zeros-run p i zero h f = let place : i ≡ i + 0 = omega arith in ap (λ (l : ℕ). zeros (drop l p)) place
zeros-run p i (suc n) h f =
    let place : i + n + 1 ≡ i + suc n = omega arith in
    zeros-run p i n (omega arith) (λ k l. f k (omega arith))
    ∙ zeros-more p (i + n) (omega arith) (f n (omega arith))
    ∙ ap (λ (l : ℕ). zeros (drop l p)) place

pub zeros-eight : (p : Bytes) (i w : ℕ) → i + 8 ≤ length p → Eight w p i → w ≡ 0 → zeros (drop i p) ≡ zeros (drop (i + 8) p)
zeros-eight p i w h f e = zeros-run p i 8 h (λ k l. sym (f k l) ∙ byte-zeros k w (omega (arith, zeros-all w e)))

-- ---- from place i on, by tests side by side

pub filled-one : (p : Bytes) (i : ℕ) → i < length p → eqb (get_or p i 0) 0 ≡ false → Filled p i 1
filled-one p i h e = omega (arith, name_size-more p i h (eqb-false (get_or p i 0) 0 e))

pub filled-both : (p : Bytes) (i m n k : ℕ) (x y : Bool) → m + n ≡ k → (x ≡ false → Filled p i m) → (y ≡ false → Filled p (i + m) n) → x || y ≡ false
    → Filled p i k
filled-both p i m n k true y q f g e = absurd (true≢false e)
filled-both p i m n k false y q f g e =
    let place : i + m + n ≡ i + k = omega arith in
    omega (arith, f refl, g e, ap (λ (l : ℕ). name_size (drop l p)) place)

-- ---- at its end

module _ (p : Bytes) (i : ℕ) (h : length p ≤ i) where
  pub zeros-end : zeros (drop i p) ≡ true
  unfolding zeros
  zeros-end = rw (drop_of_length-le p h)

  pub name_size-end : name_size (drop i p) ≡ 0
  unfolding name_size
  name_size-end = rw (drop_of_length-le p h)

  pub name-end : is_some (unpadded (drop i p)) ≡ true
  unfolding unpadded is_some
  name-end = rw (drop_of_length-le p h)

-- ---- the whole of it

-- a name that does not begin with a byte of a name is empty
pub name-none : (p : Bytes) → 1 ≤ length p → among 0x21 0x7E (get_or p 0 0) ≡ false → is_some (name_in p) ≡ false
unfolding name_in unpadded is_some
name-none [] h e = absurd (not-suc-le-zero h)
name-none (b ∷ bs) h e = rw (name_in, unpadded, e) (go (zeros (b ∷ bs)))
  where
    go : (z : Bool) → is_some {A = Bytes} (elim z [ true ↦ Some [] | false ↦ None ] >>= λ name. guard (leb 1 (length name)) >>= λ _. Some name) ≡ false
    go true = refl
    go false = refl

pub name-some : (p : Bytes) → 1 ≤ length p → among 0x21 0x7E (get_or p 0 0) ≡ true → is_some (name_in p) ≡ is_some (unpadded (drop 1 p))
unfolding name_in unpadded is_some
name-some [] h e = absurd (not-suc-le-zero h)
name-some (b ∷ bs) h e = rw (name_in, unpadded, e) (go (unpadded bs))
  where
    go : (o : Option Bytes) → is_some (o >>= (λ name. Some (b ∷ name)) >>= λ name. guard (leb 1 (length name)) >>= λ _. Some name) ≡ is_some o
    go None = refl
    go (Some name) = rw (le-leb 1 (suc (length name)) (omega arith))
