-- Decimal digits with zeros in front: of so many digits, only one spelling stands for a number.
use mathlib.Core.Path.{◌≡◌, refl, sym, ap, ◌∙◌}
use mathlib.Core.Bool.{Bool, true, false}
use Rattle.std.specs.Prelude.{None, Some}
use mathlib.Core.List.{[], ◌∷◌, ◌++◌}
use Prim.Native.Nat.{ℕ, zero, suc, ◌+◌, ◌*◌, ◌-◌, ◌/◌, ◌%◌, ◌^◌, ◌<◌}
use native.Mathlib.Nat.{pow-suc}
use native.Mathlib.Omega.{arith}
use lib.ListN.{length, take, get_or, length-append}
use lib.Seq.{length-take-le, take_all}
use Rattle.rules.specs.Bytes.{Bytes, ◌>>=◌}
use Rattle.rules.specs.Numbers.{is_digit, decimal_from}
use Rattle.rules.proofs.Ranges.{among-true}
use Rattle.rules.proofs.Tests.{apart, by}
use Rattle.facts.proofs.Lists.{take-one-more}
use Rattle.rules.proofs.Choices.{bind-some}
use Rattle.rules.proofs.Json.Suffix.{some_same}
use Rattle.rules.proofs.Decimals.{digit-between, decimal_digit, decimal-other}
use Rattle.log_files.specs.Logs.{digits}

pub length_digits : (n v : ℕ) → length (digits n v) ≡ n
unfolding digits
length_digits zero v = refl
length_digits (suc n) v = rw length-append (omega (arith, length_digits n (v / 10)))

decimal-append : (a : ℕ) (xs ys : Bytes) → decimal_from a (xs ++ ys) ≡ (decimal_from a xs >>= λ w. decimal_from w ys)
unfolding decimal_from
decimal-append a [] ys = refl
decimal-append a (x ∷ xs) ys = go (decimal-append (a * 10 + (x - 48)) xs ys) (is_digit x)
  where
    go : decimal_from (a * 10 + (x - 48)) (xs ++ ys) ≡ (decimal_from (a * 10 + (x - 48)) xs >>= λ w. decimal_from w ys)
        → (d : Bool) → elim d [ true ↦ decimal_from (a * 10 + (x - 48)) (xs ++ ys) | false ↦ None ]
        ≡ (elim d [ true ↦ decimal_from (a * 10 + (x - 48)) xs | false ↦ None ] >>= λ w. decimal_from w ys)
    go ih true = ih
    go ih false = refl

-- ---- the spelling stands for the number

pub digits_decimal : (n v : ℕ) → v < 10 ^ n → decimal_from 0 (digits n v) ≡ Some v
unfolding digits decimal_from
digits_decimal zero v h = let e : 0 ≡ v = omega arith in ap Some e
digits_decimal (suc n) v h =
    let d : ℕ = v % 10 in
    let m : d < 10 = omega arith in
    let l : v / 10 < 10 ^ n = let p : 10 ^ suc n ≡ 10 ^ n * 10 = pow-suc 10 n in omega arith in
    let s : 48 + d - 48 ≡ d = omega arith in
    let q : v / 10 * 10 + d ≡ v = omega arith in
    rw
    (decimal-append 0 (digits n (v / 10)) ((48 + d) ∷ []), digits_decimal n (v / 10) l)
    (decimal_digit (48 + d) [] (v / 10) (digit-between (48 + d) (omega arith) (omega arith)) ∙ ap Some (rw (s, q)))

-- ---- and no other does

-- the last digit of n more than one
decimal-last : (w b v : ℕ) → decimal_from w (b ∷ []) ≡ Some v → (w ≡ v / 10) × (b ≡ 48 + v % 10)
unfolding decimal_from is_digit
decimal-last w b v h = by (is_digit b) digit (λ e. apart (cc (decimal-other b [] w e)))
  where
    digit : is_digit b ≡ true → (w ≡ v / 10) × (b ≡ 48 + v % 10)
    digit e =
        let r = among-true 48 57 b e in
        let q : w * 10 + (b - 48) ≡ v = some_same (sym (decimal_digit b [] w e) ∙ h) in
        (omega (arith, r.0, r.1), omega (arith, r.0, r.1))

pub decimal-digits : (n : ℕ) (ds : Bytes) (v : ℕ) → length ds ≡ n → decimal_from 0 ds ≡ Some v → ds ≡ digits n v
unfolding digits
decimal-digits zero [] v l h = refl
decimal-digits zero (d ∷ ds) v l h = absurd (omega arith)
decimal-digits (suc n) ds v l h =
    let e : ds ≡ take n ds ++ (get_or ds n 0 ∷ []) = sym (take_all (n + 1) ds (omega arith)) ∙ take-one-more ds n 0 (omega arith) in
    let c =
    bind-some (decimal_from 0 (take n ds)) (λ w. decimal_from w (get_or ds n 0 ∷ []))
    (sym (decimal-append 0 (take n ds) (get_or ds n 0 ∷ [])) ∙ sym (ap (decimal_from 0) e) ∙ h) in
    let p = decimal-last c.0 (get_or ds n 0) v c.2 in
    let i : take n ds ≡ digits n c.0 = decimal-digits n (take n ds) c.0 (length-take-le n ds (omega arith)) c.1 in
    e ∙ rw (i, p.0, p.1)
