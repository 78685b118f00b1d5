-- Whole numbers by the first digit and the length of their text.
use mathlib.Core.Path.{◌≡◌, refl, sym, ap, ◌∙◌}
use mathlib.Core.Bool.{Bool, true, false}
use mathlib.Core.List.{[], ◌∷◌}
use Rattle.std.specs.Prelude.{Option, None, Some}
use Prim.Native.Nat.{ℕ, ◌+◌, ◌-◌, ◌*◌, ◌≤◌, ◌<◌}
use native.Mathlib.Omega.{arith}
use lib.ListN.{length, get_or}
use lib.Dec.{eqb}
use borrow.Author.Tests.{le-leb, lt-leb, eq-eqb, ne_eqb, eqb-true, eqb-false}
use Rattle.rules.specs.Bytes.{Bytes, is_empty}
use Rattle.rules.specs.Numbers.{is_digit, decimal, decimal_from, most}
use Rattle.rules.specs.Json.Numbers.{whole, int, digits, digits1}
use Rattle.rules.proofs.Ranges.{among-true}
use Rattle.rules.proofs.Tests.{apart}
use Rattle.bytes_values.specs.Readings.{in_bounds}
use Rattle.rules.proofs.Decimals.{decimal_digit, decimal-other, decimal-large}

-- ---- in bounds

pub bounds-in : (n : ℕ) → n ≤ most → in_bounds (Some n) ≡ Some n
unfolding in_bounds
bounds-in n h = rw (le-leb n most h)

pub bounds-out : (n : ℕ) → most < n → in_bounds (Some n) ≡ None
unfolding in_bounds
bounds-out n h = rw (lt-leb n most h)

-- ---- by what `int` leaves

module _ (s : Bytes) where
  whole-int-none : int s ≡ None → whole s ≡ None
  unfolding whole
  whole-int-none e = rw (whole, e)

  whole-int-left : {c : ℕ} {u : Bytes} → int s ≡ Some (c ∷ u) → whole s ≡ None
  unfolding whole is_empty
  whole-int-left e = rw (whole, e)

  whole-int-all : int s ≡ Some [] → whole s ≡ in_bounds (decimal s)
  unfolding whole is_empty in_bounds
  whole-int-all e = rw (whole, e)

-- ---- by the first digit

-- what is no digit stands somewhere
digits-left : (t : Bytes) {c : ℕ} {u : Bytes} (k : ℕ) → digits t ≡ c ∷ u → decimal_from k t ≡ None
unfolding digits
digits-left [] k e = apart (cc)
digits-left (b ∷ t) {c} {u} k e = go (digits-left t (k * 10 + (b - 48))) (is_digit b) refl
  where
    more : is_digit b ≡ true → digits (b ∷ t) ≡ digits t
    more p = rw (digits, p)

    go : (digits t ≡ c ∷ u → decimal_from (k * 10 + (b - 48)) t ≡ None) → (x : Bool) → is_digit b ≡ x → decimal_from k (b ∷ t) ≡ None
    go ih true p = decimal_digit b t k p ∙ ih (sym (more p) ∙ e)
    go ih false p = decimal-other b t k p

pub whole-zero : (s : Bytes) → 1 < length s → get_or s 0 0 ≡ 48 → whole s ≡ None
unfolding int
whole-zero [] h e = absurd (omega arith)
whole-zero (b ∷ []) h e = absurd (omega arith)
whole-zero (b ∷ c ∷ t) h e = whole-int-left (b ∷ c ∷ t) {c = c} {u = t} (rw (int, eq-eqb b 48 e))

module _ (b : ℕ) (t : Bytes) (h : b ≡ 48 → ⊥) where
  int-digits : is_digit b ≡ true → int (b ∷ t) ≡ Some (digits t)
  unfolding int digits1
  int-digits p = rw (int, ne_eqb b 48 h, digits1, p)

  int-other : is_digit b ≡ false → int (b ∷ t) ≡ None
  unfolding int digits1
  int-other p = rw (int, ne_eqb b 48 h, digits1, p)

  whole-cons : whole (b ∷ t) ≡ in_bounds (decimal (b ∷ t))
  unfolding decimal in_bounds
  whole-cons = go (is_digit b) refl (digits t) refl
    where
      go : (x : Bool) → is_digit b ≡ x → (u : Bytes) → digits t ≡ u → whole (b ∷ t) ≡ in_bounds (decimal_from 0 (b ∷ t))
      go false p u q = whole-int-none (b ∷ t) (int-other p) ∙ ap in_bounds (sym (decimal-other b t 0 p))
      go true p [] q = whole-int-all (b ∷ t) (int-digits p ∙ ap Some q)
      go true p (c ∷ u) q = whole-int-left (b ∷ t) (int-digits p ∙ ap Some q) ∙ ap in_bounds (sym (decimal_digit b t 0 p ∙ digits-left t (0 * 10 + (b - 48)) q))

pub whole-first : (s : Bytes) → (get_or s 0 0 ≡ 48 → ⊥) → whole s ≡ in_bounds (decimal s)
unfolding whole int decimal in_bounds
whole-first [] h = refl
whole-first (b ∷ t) h = whole-cons b t h

pub whole-short : (s : Bytes) → length s < 2 → whole s ≡ in_bounds (decimal s)
unfolding int
whole-short [] h = whole-first [] (λ e. absurd (omega arith))
whole-short (b ∷ []) h = go (eqb b 48) refl
  where
    go : (x : Bool) → eqb b 48 ≡ x → whole (b ∷ []) ≡ in_bounds (decimal (b ∷ []))
    go true p = whole-int-all (b ∷ []) (rw (int, p))
    go false p = whole-cons b [] (eqb-false b 48 p)
whole-short (b ∷ c ∷ t) h = absurd (omega arith)

-- ---- by the length

digit-positive : (b : ℕ) → (b ≡ 48 → ⊥) → is_digit b ≡ true → 0 < b - 48
unfolding is_digit
digit-positive b h e = let r = among-true 48 57 b e in omega arith

pub whole_long : (s : Bytes) → 19 < length s → whole s ≡ None
unfolding most in_bounds decimal
whole_long [] h = absurd (omega arith)
whole_long (b ∷ t) h = go (eqb b 48) refl
  where
    large : (k : ℕ) → 0 < k → (o : Option ℕ) → decimal_from k t ≡ o → in_bounds o ≡ None
    large k l None e = refl
    large k l (Some n) e = let g : 10_000_000_000_000_000_000 ≤ n = decimal-large t k n l (omega arith) e in bounds-out n (omega arith)

    digit : (b ≡ 48 → ⊥) → (x : Bool) → is_digit b ≡ x → in_bounds (decimal (b ∷ t)) ≡ None
    digit q false p = ap in_bounds (decimal-other b t 0 p)
    digit q true p =
        let l : 0 < b - 48 = digit-positive b q p in
        ap in_bounds (decimal_digit b t 0 p) ∙ large (0 * 10 + (b - 48)) (omega arith) (decimal_from (0 * 10 + (b - 48)) t) refl

    go : (x : Bool) → eqb b 48 ≡ x → whole (b ∷ t) ≡ None
    go true p = whole-zero (b ∷ t) (omega arith) (eqb-true b 48 p)
    go false p = let q = eqb-false b 48 p in whole-cons b t q ∙ digit q (is_digit b) refl
