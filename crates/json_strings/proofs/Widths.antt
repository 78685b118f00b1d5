-- A code point in UTF-8 by its width, and its last bytes one by one.
use mathlib.Core.Path.{◌≡◌, sym, ap, subst}
use mathlib.Core.List.{[], ◌∷◌}
use Prim.Native.Nat.{ℕ, ◌+◌, ◌-◌, ◌/◌, ◌%◌, ◌≤◌, ◌<◌}
use native.Mathlib.Omega.{arith}
use borrow.Author.Tests.{lt-ltb, le-ltb, ltb-true, ltb-false}
use lib.Dec.{ltb}
use lib.ListN.{length, drop_of_length-le}
use Rattle.rules.specs.Bytes.{Bytes, first}
use Rattle.rules.specs.Json.Strings.{utf8}
use Rattle.rules.proofs.Tests.{by}
use Rattle.json_strings.specs.Flat.{last_of}

pub record Sizes (c : ℕ) : Type 0 where
  pub some : 0 < length (utf8 c)
  pub most : length (utf8 c) ≤ 4
  pub three : 2 < length (utf8 c) → 0x800 ≤ c
  pub four : 3 < length (utf8 c) → 0x10000 ≤ c

module _ (c : ℕ) where
  pub utf8-one : c < 0x80 → utf8 c ≡ c ∷ []
  unfolding utf8 first
  utf8-one h = rw (utf8, first, lt-ltb c 0x80 h)

  pub utf8-two : 0x80 ≤ c → c < 0x800 → utf8 c ≡ (0xC0 + c / 0x40) ∷ (0x80 + c % 0x40) ∷ []
  unfolding utf8 first
  utf8-two l h = rw (utf8, first, le-ltb c 0x80 l, lt-ltb c 0x800 h)

  pub utf8-three : 0x800 ≤ c → c < 0x10000 → utf8 c ≡ (0xE0 + c / 0x1000) ∷ (0x80 + c / 0x40 % 0x40) ∷ (0x80 + c % 0x40) ∷ []
  unfolding utf8 first
  utf8-three l h =
      let k : 0x80 ≤ c = omega arith in
      rw (utf8, first, le-ltb c 0x80 k, le-ltb c 0x800 l, lt-ltb c 0x10000 h)

  pub utf8-four : 0x10000 ≤ c → utf8 c ≡ (0xF0 + c / 0x40000) ∷ (0x80 + c / 0x1000 % 0x40) ∷ (0x80 + c / 0x40 % 0x40) ∷ (0x80 + c % 0x40) ∷ []
  unfolding utf8 first
  utf8-four l =
      let k : 0x80 ≤ c = omega arith in
      let m : 0x800 ≤ c = omega arith in
      rw (utf8, first, le-ltb c 0x80 k, le-ltb c 0x800 m, le-ltb c 0x10000 l)

  -- the first of the last n bytes
  abbrev pub Last : ℕ → ℕ → Type 0
  Last n b = last_of n (utf8 c) ≡ b ∷ last_of (n - 1) (utf8 c)

  pub last_as : {n k b : ℕ} → n ≡ k → Last k b → Last n b
  last_as {b = b} e h = subst (λ (m : ℕ). Last m b) (sym e) h

  pub last-tail : 0x80 ≤ c → Last 1 (0x80 + c % 0x40)
  unfolding last_of
  last-tail l = by (ltb c 0x800) (λ p. rw (utf8-two l (ltb-true c 0x800 p))) (λ p. by (ltb c 0x10000)
      (λ q. rw (utf8-three (ltb-false c 0x800 p) (ltb-true c 0x10000 q)))
      (λ q. rw (utf8-four (ltb-false c 0x10000 q))))

  pub last-second : 0x800 ≤ c → Last 2 (0x80 + c / 0x40 % 0x40)
  unfolding last_of
  last-second l = by (ltb c 0x10000)
      (λ q. rw (utf8-three l (ltb-true c 0x10000 q)))
      (λ q. rw (utf8-four (ltb-false c 0x10000 q)))

  pub last-two : 0x80 ≤ c → c < 0x800 → Last 2 (0xC0 + c / 0x40)
  unfolding last_of
  last-two l h = rw (utf8-two l h)

  pub last-three : 0x800 ≤ c → c < 0x10000 → Last 3 (0xE0 + c / 0x1000)
  unfolding last_of
  last-three l h = rw (utf8-three l h)

  pub last-third : 0x10000 ≤ c → Last 3 (0x80 + c / 0x1000 % 0x40)
  unfolding last_of
  last-third l = rw (utf8-four l)

  pub last-four : 0x10000 ≤ c → Last 4 (0xF0 + c / 0x40000)
  unfolding last_of
  last-four l = rw (utf8-four l)

  pub last_one : c < 0x80 → Last 1 c
  unfolding last_of
  last_one h = rw (utf8-one h)

  -- ---- sizes

  pub size-one : c < 0x80 → length (utf8 c) ≡ 1
  size-one h = ap length (utf8-one h)

  pub size-two : 0x80 ≤ c → c < 0x800 → length (utf8 c) ≡ 2
  size-two l h = ap length (utf8-two l h)

  pub size-three : 0x800 ≤ c → c < 0x10000 → length (utf8 c) ≡ 3
  size-three l h = ap length (utf8-three l h)

  pub size-four : 0x10000 ≤ c → length (utf8 c) ≡ 4
  size-four l = ap length (utf8-four l)

  -- one to four bytes, and how large the code point is by their number
  pub size-bounds : Sizes c
  size-bounds = by (ltb c 0x80)
      (λ p. let e : length (utf8 c) ≡ 1 = size-one (ltb-true c 0x80 p) in
      record { some = omega arith; most = omega arith; three = λ h. omega arith; four = λ h. omega arith })
      (λ p. by (ltb c 0x800)
      (λ q. let e : length (utf8 c) ≡ 2 = size-two (ltb-false c 0x80 p) (ltb-true c 0x800 q) in
      record { some = omega arith; most = omega arith; three = λ h. omega arith; four = λ h. omega arith })
      (λ q. let l : 0x800 ≤ c = ltb-false c 0x800 q in by (ltb c 0x10000)
      (λ r. let e : length (utf8 c) ≡ 3 = size-three l (ltb-true c 0x10000 r) in
      record { some = omega arith; most = omega arith; three = λ h. l; four = λ h. omega arith })
      (λ r. let m : 0x10000 ≤ c = ltb-false c 0x10000 r in
      let e : length (utf8 c) ≡ 4 = size-four m in record { some = omega arith; most = omega arith; three = λ h. l; four = λ h. m })))

pub last_of-all : (x : Bytes) → last_of (length x) x ≡ x
unfolding last_of
last_of-all x = let e : length x - length x ≡ 0 = omega arith in rw e

pub last_of_none : (x : Bytes) → last_of 0 x ≡ []
unfolding last_of
last_of_none x = drop_of_length-le x {i = length x - 0} (omega arith)
