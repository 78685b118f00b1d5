-- Twenty digits of which the first two are zeros: what they stand for is below 10^18, and no version that is too large.
use mathlib.Core.Path.{◌≡◌, refl, sym, ◌∙◌}
use mathlib.Core.Bool.{Bool, true, false}
use Rattle.std.specs.Prelude.{Option, None, Some}
use mathlib.Core.List.{[], ◌∷◌}
use Prim.Native.Nat.{ℕ, suc, ◌+◌, ◌-◌, ◌*◌, ◌^◌, ◌≤◌, ◌<◌}
use native.Mathlib.Nat.{add-zero, pow-le-pow_right}
use native.Mathlib.Omega.{arith}
use lib.Dec.{eqb}
use borrow.Author.Tests.{eqb-true, eqb-false, le-leb}
use lib.ListN.{length, take, drop, get_or, length-take}
use Rattle.rules.specs.Bytes.{Bytes, ascii, same, begins, among}
use Rattle.rules.specs.Numbers.{is_digit, decimal, decimal_from, most}
use Rattle.rules.specs.Names.{name_of, with_ending, numbered, is_too_large, marker}
use Rattle.rules.proofs.Order.{begins-cons, begins-cons-ne, begins-true}
use Rattle.rules.proofs.Ranges.{among-true}
use Rattle.rules.proofs.Tests.{apart, by, true-not-false}
use Rattle.rules.proofs.Decimals.{decimal_digit, decimal-other, grown}
use Rattle.bytes_values.proofs.Words.{begins-longer}
use Rattle.file_names.specs.Names.{two_zeros}

-- ---- digits

digit-less : (b : ℕ) → is_digit b ≡ true → b - 48 < 10
unfolding is_digit
digit-less b e = let r = among-true 48 57 b e in omega (arith, r.0, r.1)

-- each digit more is at most ten times more
decimal-below : (t : Bytes) (j k n : ℕ) → k < 10 ^ j → decimal_from k t ≡ Some n → n < 10 ^ (j + length t)
unfolding decimal_from
decimal-below [] j k n h e = let q : k ≡ n = cc in rw add-zero (omega arith)
decimal-below (b ∷ t) j k n h e = go (decimal-below t (j + 1) (k * 10 + (b - 48)) n) (is_digit b) refl
  where
    go : (k * 10 + (b - 48) < 10 ^ (j + 1) → decimal_from (k * 10 + (b - 48)) t ≡ Some n → n < 10 ^ (j + 1 + length t)) → (x : Bool) → is_digit b ≡ x
        → n < 10 ^ (j + suc (length t))
    go ih true p =
        let q : j + suc (length t) ≡ j + 1 + length t = omega arith in
        rw q (ih (grown k (b - 48) j h (digit-less b p)) (sym (decimal_digit b t k p) ∙ e))
    go ih false p = let q : None ≡ Some n = sym (decimal-other b t k p) ∙ e in apart (cc)

-- ---- the name

not-large : (o : Option ℕ) (e : Bytes) → ((n : ℕ) → o ≡ Some n → n ≤ most) → is_too_large (with_ending o e) ≡ false
unfolding is_too_large with_ending numbered
not-large None e h = refl
not-large (Some n) e h = rw (le-leb n most (h n refl)) (go (same e (ascii ".json")) (same e (ascii ".checkpoint.json")))
  where
    go : (x y : Bool) → is_too_large (numbered x y true n) ≡ false
    go true y = refl
    go false true = refl
    go false false = refl

low : (t : Bytes) (n : ℕ) → decimal (take 20 (48 ∷ 48 ∷ t)) ≡ Some n → n ≤ most
unfolding most decimal decimal_from is_digit among
low t n e =
    let d : n < 10 ^ (0 + length (take 18 t)) = decimal-below (take 18 t) 0 0 n (omega arith) e in
    let l : 10 ^ (0 + length (take 18 t)) ≤ 10 ^ 18 = pow-le-pow_right (omega arith) {i = 0 + length (take 18 t)} {j = 18} (omega (arith, length-take 18 t)) in
    omega (arith, d, l)

pub low-name : (s : Bytes) → begins two_zeros s ≡ true → is_too_large (name_of s) ≡ false
unfolding is_too_large name_of
low-name [] e = absurd (true-not-false e (begins-longer two_zeros [] (omega arith)))
low-name (a ∷ []) e = absurd (true-not-false e (begins-longer two_zeros (a ∷ []) (omega arith)))
low-name (a ∷ b ∷ t) e =
    let both : a ∷ b ∷ [] ≡ 48 ∷ 48 ∷ [] = begins-true two_zeros (a ∷ b ∷ t) e in
    let p : a ≡ 48 = cc both in
    let q : b ≡ 48 = cc both in
    rw (p, q) (go (same (48 ∷ 48 ∷ t) (ascii "_last_checkpoint")))
  where
    go : (m : Bool) → is_too_large (elim m [ true ↦ marker | false ↦ with_ending (decimal (take 20 (48 ∷ 48 ∷ t))) (drop 20 (48 ∷ 48 ∷ t)) ]) ≡ false
    go true = refl
    go false = not-large (decimal (take 20 (48 ∷ 48 ∷ t))) (drop 20 (48 ∷ 48 ∷ t)) (low t)

-- ---- its first two bytes

pub zeros-first : (s : Bytes) → 2 ≤ length s → (get_or s 0 0 ≡ 48 → ⊥) → begins two_zeros s ≡ false
zeros-first [] h n = absurd (omega arith)
zeros-first (a ∷ t) h n = begins-cons-ne 48 a (48 ∷ []) t (λ e. n (sym e))

pub zeros-second : (s : Bytes) → 2 ≤ length s → get_or s 0 0 ≡ 48 → begins two_zeros s ≡ eqb (get_or s 1 0) 48
unfolding begins
zeros-second [] h e = absurd (omega arith)
zeros-second (a ∷ []) h e = absurd (omega arith)
zeros-second (a ∷ b ∷ t) h e =
    begins-cons 48 a (48 ∷ []) (b ∷ t) (sym e)
    ∙ by (eqb b 48) (λ y. begins-cons 48 b [] t (sym (eqb-true b 48 y)) ∙ sym y) (λ y. begins-cons-ne 48 b [] t (λ f. eqb-false b 48 y (sym f)) ∙ sym y)
