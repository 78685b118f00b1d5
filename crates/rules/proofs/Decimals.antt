-- Decimal digits from a place of a text, and how large what they stand for grows with their number.
use mathlib.Core.Path.{◌≡◌, refl, sym, ◌∙◌}
use mathlib.Core.Bool.{Bool, true, false}
use mathlib.Core.List.{[], ◌∷◌}
use Rattle.std.specs.Prelude.{None, Some}
use Prim.Native.Nat.{ℕ, suc, ◌+◌, ◌-◌, ◌*◌, ◌^◌, ◌≤◌, ◌<◌}
use native.Mathlib.Numerals.{add-one}
use native.Mathlib.Nat.{add-zero, pow-suc, pow-le-pow_right, le_trans}
use native.Mathlib.Omega.{arith}
use lib.ListN.{length, drop, get_or, drop_of_length-le}
use Rattle.facts.proofs.Lists.{drop_here}
use Rattle.rules.specs.Bytes.{Bytes}
use Rattle.rules.specs.Numbers.{is_digit, decimal, decimal_from}
use Rattle.rules.proofs.Ranges.{among-within}
use Rattle.rules.proofs.Tests.{apart}

-- ---- a digit

pub digit-between : (b : ℕ) → 48 ≤ b → b ≤ 57 → is_digit b ≡ true
unfolding is_digit
digit-between b l h = among-within 48 57 b l h

-- ---- one byte of digits

module _ (b : ℕ) (t : Bytes) (n : ℕ) where
  pub decimal_digit : is_digit b ≡ true → decimal_from n (b ∷ t) ≡ decimal_from (n * 10 + (b - 48)) t
  unfolding decimal_from
  decimal_digit e = rw (decimal_from, e)

  pub decimal-other : is_digit b ≡ false → decimal_from n (b ∷ t) ≡ None
  unfolding decimal_from
  decimal-other e = rw (decimal_from, e)

module _ (s : Bytes) (i n : ℕ) (h : i < length s) where
  pub decimal-at-digit : is_digit (get_or s i 0) ≡ true → decimal_from n (drop i s) ≡ decimal_from (n * 10 + (get_or s i 0 - 48)) (drop (i + 1) s)
  decimal-at-digit e = rw (drop_here s i 0 h) (decimal_digit (get_or s i 0) (drop (i + 1) s) n e)

  pub decimal-at-other : is_digit (get_or s i 0) ≡ false → decimal_from n (drop i s) ≡ None
  decimal-at-other e = rw (drop_here s i 0 h) (decimal-other (get_or s i 0) (drop (i + 1) s) n e)

pub decimal-end : (s : Bytes) (i n : ℕ) → length s ≤ i → decimal_from n (drop i s) ≡ Some n
unfolding decimal_from
decimal-end s i n h = rw (drop_of_length-le s h)

-- one digit more is ten times more
pub grown : (n d i : ℕ) → n < 10 ^ i → d < 10 → n * 10 + d < 10 ^ (i + 1)
grown n d i h k = rw (add-one, pow-suc) (omega arith)

-- before the nineteenth digit there is room for one more
pub room-left : (n i : ℕ) → n < 10 ^ i → i < 19 → n < 1_000_000_000_000_000_000
room-left n i h k = le_trans h (pow-le-pow_right (omega arith) {i = i} {j = 18} (omega arith))

-- ---- a whole text

pub decimal-empty : (s : Bytes) → length s < 1 → decimal s ≡ None
unfolding decimal
decimal-empty [] h = refl
decimal-empty (b ∷ s) h = absurd (omega arith)

pub decimal-start : (s : Bytes) → 1 ≤ length s → decimal s ≡ decimal_from 0 s
unfolding decimal
decimal-start [] h = absurd (omega arith)
decimal-start (b ∷ s) h = refl

-- ---- what digits stand for, and its size

-- digits or not does not depend on what stands before them
pub decimal-none : (t : Bytes) (j k : ℕ) → decimal_from j t ≡ None → decimal_from k t ≡ None
unfolding decimal_from
decimal-none [] j k e = apart (cc)
decimal-none (b ∷ t) j k e = go (decimal-none t (j * 10 + (b - 48)) (k * 10 + (b - 48))) (is_digit b) refl
  where
    go : (decimal_from (j * 10 + (b - 48)) t ≡ None → decimal_from (k * 10 + (b - 48)) t ≡ None) → (x : Bool) → is_digit b ≡ x → decimal_from k (b ∷ t) ≡ None
    go ih true p = decimal_digit b t k p ∙ ih (sym (decimal_digit b t j p) ∙ e)
    go ih false p = decimal-other b t k p

-- each digit more is ten times more
decimal-grows : (t : Bytes) (j k n : ℕ) → 10 ^ j ≤ k → decimal_from k t ≡ Some n → 10 ^ (j + length t) ≤ n
unfolding decimal_from
decimal-grows [] j k n h e = let q : k ≡ n = cc in rw add-zero (omega arith)
decimal-grows (b ∷ t) j k n h e = go (decimal-grows t (suc j) (k * 10 + (b - 48)) n (rw pow-suc (omega arith))) (is_digit b) refl
  where
    go : (decimal_from (k * 10 + (b - 48)) t ≡ Some n → 10 ^ (suc j + length t) ≤ n) → (x : Bool) → is_digit b ≡ x → 10 ^ (j + suc (length t)) ≤ n
    go ih true p =
        let q : j + suc (length t) ≡ suc j + length t = omega arith in
        rw q (ih (sym (decimal_digit b t k p) ∙ e))
    go ih false p = let q : None ≡ Some n = sym (decimal-other b t k p) ∙ e in apart (cc)

-- nineteen digits behind one that is not zero
pub decimal-large : (t : Bytes) (k n : ℕ) → 0 < k → 19 ≤ length t → decimal_from k t ≡ Some n → 10_000_000_000_000_000_000 ≤ n
decimal-large t k n h l e =
    le_trans (pow-le-pow_right (omega arith) {i = 19} {j = 0 + length t} (omega arith)) (decimal-grows t 0 k n h e)
