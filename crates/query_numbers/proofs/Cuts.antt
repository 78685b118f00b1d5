-- Digits cut off above 2^63, back in the rules' terms, and twenty digits by the first of them.
use mathlib.Core.Path.{◌≡◌, refl, sym, ap, subst, ◌∙◌}
use mathlib.Core.Bool.{Bool, true, false}
use mathlib.Core.List.{[], ◌∷◌}
use Rattle.std.specs.Prelude.{Option, None, Some}
use Prim.Native.Nat.{ℕ, suc, ◌+◌, ◌-◌, ◌*◌, ◌≤◌, ◌<◌}
use native.Mathlib.Omega.{arith}
use lib.Dec.{leb}
use lib.ListN.{length, take, drop, get_or}
use lib.Seq.{take_all}
use borrow.Author.Tests.{lt-leb, leb-true, leb-false}
use Rattle.rules.specs.Bytes.{Bytes}
use Rattle.rules.specs.Numbers.{is_digit, decimal, decimal_from, most}
use Rattle.rules.proofs.Tests.{apart}
use Rattle.query_numbers.specs.Capping.{capped, capped_is}
use Rattle.std.specs.Prelude.{Ok, Err}
use Rattle.query_numbers.specs.declared.NoNumber.TheVariants.{OutOfRange, NotNumber}
use Rattle.rules.proofs.Decimals.{digit-between, decimal-start, decimal_digit, decimal-other, decimal-none, decimal-large}

-- above 2^63
pub cut-above : (n : ℕ) → suc most < n → capped_is (Some n) ≡ Err OutOfRange
unfolding capped_is capped
cut-above n h = rw (capped_is, lt-leb n (suc most) h)

pub cut_below : (o : Option ℕ) {n : ℕ} → capped_is o ≡ Ok n → (o ≡ Some n) × (n ≤ suc most)
unfolding capped_is capped
cut_below None e = apart (cc)
cut_below (Some m) {n} e = go (leb m (suc most)) refl e
  where
    go : (x : Bool) → leb m (suc most) ≡ x → capped x m ≡ Ok n → (Some m ≡ Some n) × (n ≤ suc most)
    go true p f = let q : m ≡ n = cc in (ap Some q, subst (λ (k : ℕ). k ≤ suc most) q (leb-true m (suc most) p))
    go false p f = apart (cc)

pub cut-large : (o : Option ℕ) → capped_is o ≡ Err OutOfRange → (n : ℕ) × (o ≡ Some n) × (suc most < n)
unfolding capped_is capped
cut-large None e = apart (cc)
cut-large (Some m) e = go (leb m (suc most)) refl e
  where
    go : (x : Bool) → leb m (suc most) ≡ x → capped x m ≡ Err OutOfRange → (n : ℕ) × (Some m ≡ Some n) × (suc most < n)
    go true p f = apart (cc)
    go false p f = (m, refl, leb-false m (suc most) p)

pub cut-none : (o : Option ℕ) → capped_is o ≡ Err NotNumber → o ≡ None
unfolding capped_is capped
cut-none None e = refl
cut-none (Some m) e = go (leb m (suc most)) e
  where
    go : (x : Bool) → capped x m ≡ Err NotNumber → Some m ≡ None
    go true f = apart (cc)
    go false f = apart (cc)

-- ---- behind the first byte

abbrev pub rest : Bytes → Bytes
rest s = take (length s - 1) (drop 1 s)

pub rest-cons : (b : ℕ) (t : Bytes) → rest (b ∷ t) ≡ t
rest-cons b t = take_all (suc (length t) - 1) t (omega arith)

pub rest-length : (s : Bytes) → length (rest s) ≤ length s - 1
rest-length [] = omega arith
rest-length (b ∷ t) = rw rest-cons (omega arith)

-- ---- twenty digits

pub twenty-other : (s : Bytes) → length s ≡ 20 → is_digit (get_or s 0 0) ≡ false → decimal s ≡ None
unfolding decimal
twenty-other [] h e = refl
twenty-other (b ∷ t) h e = decimal-other b t 0 e

module _ (b : ℕ) (t : Bytes) (h : suc (length t) ≡ 20) where
  rest_from : decimal (rest (b ∷ t)) ≡ decimal_from 0 t
  rest_from = ap decimal (rest-cons b t) ∙ decimal-start t (omega arith)

  first-none : decimal (rest (b ∷ t)) ≡ None → (x : Bool) → is_digit b ≡ x → decimal_from 0 (b ∷ t) ≡ None
  first-none e false p = decimal-other b t 0 p
  first-none e true p = decimal_digit b t 0 p ∙ decimal-none t 0 (0 * 10 + (b - 48)) (sym rest_from ∙ e)

  first-zero : b ≡ 48 → decimal_from 0 (b ∷ t) ≡ decimal (rest (b ∷ t))
  first-zero e =
      let z : 0 * 10 + (b - 48) ≡ 0 = omega arith in
      decimal_digit b t 0 (digit-between b (omega arith) (omega arith)) ∙ ap (λ (k : ℕ). decimal_from k t) z ∙ sym rest_from

  first-large : {n : ℕ} → 48 < b → is_digit b ≡ true → decimal (rest (b ∷ t)) ≡ Some n → capped_is (decimal_from 0 (b ∷ t)) ≡ Err OutOfRange
  unfolding most
  first-large {n} l p e = ap capped_is (decimal_digit b t 0 p) ∙ go (decimal_from (0 * 10 + (b - 48)) t) refl
    where
      go : (o : Option ℕ) → decimal_from (0 * 10 + (b - 48)) t ≡ o → capped_is o ≡ Err OutOfRange
      go None q = apart (cc (decimal-none t (0 * 10 + (b - 48)) 0 q, rest_from))
      go (Some m) q =
          let g : 10_000_000_000_000_000_000 ≤ m = decimal-large t (0 * 10 + (b - 48)) m (omega arith) (omega arith) q in
          cut-above m (omega arith)

pub twenty-none : (s : Bytes) → length s ≡ 20 → decimal (rest s) ≡ None → decimal s ≡ None
unfolding decimal
twenty-none [] h e = refl
twenty-none (b ∷ t) h e = first-none b t h e (is_digit b) refl

pub twenty-zero : (s : Bytes) → length s ≡ 20 → get_or s 0 0 ≡ 48 → decimal s ≡ decimal (rest s)
unfolding decimal
twenty-zero [] h e = absurd (omega arith)
twenty-zero (b ∷ t) h e = first-zero b t h e

pub twenty-large : (s : Bytes) {n : ℕ} → length s ≡ 20 → 48 < get_or s 0 0 → is_digit (get_or s 0 0) ≡ true → decimal (rest s) ≡ Some n
    → capped_is (decimal s) ≡ Err OutOfRange
unfolding decimal
twenty-large [] h l p e = absurd (omega arith)
twenty-large (b ∷ t) h l p e = first-large b t h l p e
