-- Laws of numbers as bytes: what is done to a number is done to each byte, where no difference takes from the next.
use Rattle.std.proofs.Common.{◌≡◌, ℕ, zero, suc, ◌+◌, ◌-◌, ◌*◌, ◌/◌, ◌%◌, ◌^◌, ◌<◌, ◌≤◌, ltb, List, get_or, sym, refl, ap, ◌∙◌, ap₂, le_of_suc-le-suc}
use Rattle.std.proofs.Common.{mod-lt, pow-suc, arith, lit<, pow_pos, ltb-false, ltb-true}
use native.Mathlib.Nat.{mod-one}
use lib.Arith.{mod-mul, digits_div, digits_mod}
use lib.Pow.{mod-pow-add}
use Rattle.rules.proofs.Tests.{by}
use lib.Bits.{bit_and, bit_or, bit_xor, and_shr, or_shr, xor_shr, and_mod, or_mod, xor_mod, and_le_l, and_le_r, xor_add_and, xor_self}
use lib.Count.{under, count_trailing_zeros, trailing_of_zero, trailing_le}
use Rattle.bytes_eights.specs.Words.{byte, Eight, zeros, Same}

-- ---- bytes put together

byte_low : (r b : ℕ) → b < 256 → byte 0 (r * 256 + b) ≡ b
unfolding byte
byte_low r b h = digits_mod r h

byte_high : (k r b : ℕ) → b < 256 → byte (suc k) (r * 256 + b) ≡ byte k r
unfolding byte
byte_high k r b h = ap (byte k) (digits_div r h)

pub byte-lt : (k w : ℕ) → byte k w < 256
unfolding byte
byte-lt zero w = mod-lt w (lit< tt)
byte-lt (suc k) w = byte-lt k (w / 256)

-- n bytes, the first the lowest
unfoldable pub joined : ℕ → (ℕ → ℕ) → ℕ
joined zero f = 0
joined (suc n) f = joined n (λ k. f (suc k)) * 256 + f 0

pub byte-joined : (n : ℕ) (f : ℕ → ℕ) → ((k : ℕ) → f k < 256) → (k : ℕ) → k < n → byte k (joined n f) ≡ f k
unfolding joined
byte-joined zero f b k h = absurd (omega arith)
byte-joined (suc n) f b zero h = byte_low (joined n (λ k. f (suc k))) (f 0) (b 0)
byte-joined (suc n) f b (suc k) h = byte_high k (joined n (λ j. f (suc j))) (f 0) (b 0) ∙ byte-joined n (λ j. f (suc j)) (λ j. b (suc j)) k (le_of_suc-le-suc h)

-- eight bytes, each with its weight
abbrev weighed : ℕ → (ℕ → ℕ) → ℕ
weighed b f =
    b
    + f 1 * 0x100
    + f 2 * 0x10000
    + f 3 * 0x1000000
    + f 4 * 0x100000000
    + f 5 * 0x10000000000
    + f 6 * 0x1000000000000
    + f 7 * 0x100000000000000

weighed-joined : (f : ℕ → ℕ) → weighed (f 0) f ≡ joined 8 f
unfolding joined
weighed-joined f = omega arith

pub eight-weighed : (s : List ℕ) (i : ℕ) → ((k : ℕ) → get_or s k 0 < 256) → Eight (weighed (get_or s i 0) (λ j. get_or s (i + j) 0)) s i
eight-weighed s i b k h =
    let z : i ≡ i + 0 = omega arith in
    ap (λ (x : ℕ). byte k (weighed (get_or s x 0) (λ j. get_or s (i + j) 0))) z
    ∙ ap (byte k) (weighed-joined (λ j. get_or s (i + j) 0))
    ∙ byte-joined 8 (λ j. get_or s (i + j) 0) (λ j. b (i + j)) k h

-- ---- operations on each byte

module _ (op : ℕ → ℕ → ℕ)
    (shr : (a b k : ℕ) → op a b / 2 ^ k ≡ op (a / 2 ^ k) (b / 2 ^ k))
    (rest : (a b k : ℕ) → op a b % 2 ^ k ≡ op (a % 2 ^ k) (b % 2 ^ k)) where
  byte-op : (k a b : ℕ) → byte k (op a b) ≡ op (byte k a) (byte k b)
  unfolding byte
  byte-op zero a b = rest a b 8
  byte-op (suc k) a b = ap (byte k) (shr a b 8) ∙ byte-op k (a / 256) (b / 256)

pub byte-and : (k a b : ℕ) → byte k (bit_and a b) ≡ bit_and (byte k a) (byte k b)
byte-and = byte-op bit_and and_shr and_mod

pub byte_or : (k a b : ℕ) → byte k (bit_or a b) ≡ bit_or (byte k a) (byte k b)
byte_or = byte-op bit_or or_shr or_mod

pub byte-xor : (k a b : ℕ) → byte k (bit_xor a b) ≡ bit_xor (byte k a) (byte k b)
byte-xor = byte-op bit_xor xor_shr xor_mod

-- a byte less another, around 256
abbrev pub less : ℕ → ℕ → ℕ
less x y = (x + (256 - y)) % 256

less-sum : (x y : ℕ) → x < 256 → y < 256 → x ≡ less ((x + y) % 256) y
less-sum x y h k = omega arith

less-lowest : (n a b d : ℕ) → (d + b) % 2 ^ (suc n * 8) ≡ a → a ≡ ((d + b) / 256 % 2 ^ (n * 8)) * 256 + (d + b) % 256
less-lowest n a b d e =
    let p : suc n * 8 ≡ n * 8 + 8 = omega arith in
    sym e ∙ ap (λ (m : ℕ). (d + b) % 2 ^ m) p ∙ mod-pow-add (d + b) (n * 8) 8

-- a difference d of n bytes, as far as no byte takes from the next
pub byte-less : (k n a b d : ℕ) → k < n → (d + b) % 2 ^ (n * 8) ≡ a → ((j : ℕ) → j < k → byte j b ≤ byte j a) → byte k d ≡ less (byte k a) (byte k b)
unfolding byte
byte-less k zero a b d l e f = absurd (omega arith)
byte-less zero (suc n) a b d l e f =
    let s = less-lowest n a b d e in
    let g : (d % 256 + b % 256) % 256 ≡ a % 256 = omega arith in
    less-sum (d % 256) (b % 256) (omega arith) (omega arith) ∙ ap (λ (x : ℕ). less x (b % 256)) g
byte-less (suc k) (suc n) a b d l e f =
    let s = less-lowest n a b d e in
    let t : b % 256 ≤ a % 256 = f 0 (omega arith) in
    let g : d / 256 + b / 256 ≡ (d + b) / 256 = omega arith in
    let h : (d + b) / 256 % 2 ^ (n * 8) ≡ a / 256 = omega arith in
    byte-less k n (a / 256) (b / 256) (d / 256) (omega arith) (ap (λ (x : ℕ). x % 2 ^ (n * 8)) g ∙ h) (λ j m. f (suc j) (omega arith))

-- ---- the zeros that a number ends in

zeros-mod : (m k x : ℕ) → m ≤ count_trailing_zeros k x → x % 2 ^ m ≡ 0
unfolding count_trailing_zeros
zeros-mod zero k x h = mod-one x
zeros-mod (suc m) zero x h = absurd (omega arith)
zeros-mod (suc m) (suc k) x h = go (x % 2) refl h (zeros-mod m k (x / 2))
  where
    go : (d : ℕ) → x % 2 ≡ d → suc m ≤ under d (count_trailing_zeros k (x / 2)) → (m ≤ count_trailing_zeros k (x / 2) → x / 2 % 2 ^ m ≡ 0) → x % 2 ^ suc m ≡ 0
    go zero e l f =
        ap (λ (p : ℕ). x % p) (pow-suc 2 m) ∙ mod-mul x (pow_pos m) (pow_pos 1)
        ∙ ap₂ (λ (u v : ℕ). u * 2 + v) (f (le_of_suc-le-suc l)) e
    go (suc d) e l f = absurd (omega arith)

byte-zero : (k x : ℕ) → x % 2 ^ (k * 8 + 8) ≡ 0 → byte k x ≡ 0
unfolding byte
byte-zero zero x e = e
byte-zero (suc k) x e =
    let p : suc k * 8 + 8 ≡ (k * 8 + 8) + 8 = omega arith in
    let f : (x / 256 % 2 ^ (k * 8 + 8)) * 256 + x % 256 ≡ 0 = sym (mod-pow-add x (k * 8 + 8) 8) ∙ ap (λ (m : ℕ). x % 2 ^ m) (sym p) ∙ e in
    byte-zero k (x / 256) (omega arith)

pub byte-zeros : (k x : ℕ) → k < zeros x → byte k x ≡ 0
unfolding zeros
byte-zeros k x h = byte-zero k x (zeros-mod (k * 8 + 8) 64 x (omega arith))

mod-zeros : (m k x : ℕ) → x % 2 ^ m ≡ 0 → m ≤ k → m ≤ count_trailing_zeros k x
unfolding count_trailing_zeros
mod-zeros zero k x e h = omega arith
mod-zeros (suc m) zero x e h = absurd (omega arith)
mod-zeros (suc m) (suc k) x e h = go (x % 2) refl (mod-zeros m k (x / 2) (omega (arith, halves)) (le_of_suc-le-suc h))
  where
    place : suc m ≡ m + 1
    place = omega arith

    halves : x / 2 % 2 ^ m * 2 + x % 2 ≡ 0
    halves = sym (mod-pow-add x m 1) ∙ ap (λ (n : ℕ). x % 2 ^ n) (sym place) ∙ e

    go : (d : ℕ) → x % 2 ≡ d → m ≤ count_trailing_zeros k (x / 2) → suc m ≤ under d (count_trailing_zeros k (x / 2))
    go zero f l = omega arith
    go (suc d) f l = absurd (omega (arith, halves))

bytes-zero : (n x : ℕ) → ((k : ℕ) → k < n → byte k x ≡ 0) → x % 2 ^ (n * 8) ≡ 0
unfolding byte
bytes-zero zero x f = mod-one x
bytes-zero (suc n) x f =
    let p : suc n * 8 ≡ n * 8 + 8 = omega arith in
    let low : x % 256 ≡ 0 = f 0 (omega arith) in
    let high : x / 256 % 2 ^ (n * 8) ≡ 0 = bytes-zero n (x / 256) (λ k h. f (suc k) (omega arith)) in
    let both : x % 2 ^ (n * 8 + 8) ≡ x / 256 % 2 ^ (n * 8) * 256 + x % 256 = mod-pow-add x (n * 8) 8 in
    ap (λ (m : ℕ). x % 2 ^ m) p ∙ omega arith

-- behind the bytes that are zero stands one that is not
pub byte-first : (x : ℕ) → zeros x < 8 → byte (zeros x) x ≡ 0 → ⊥
unfolding zeros
byte-first x h e =
    let z : ℕ = count_trailing_zeros 64 x / 8 in
    let all : x % 2 ^ (suc z * 8) ≡ 0 = bytes-zero (suc z) x each in
    omega (arith, mod-zeros (suc z * 8) 64 x all (omega arith))
  where
    each : (k : ℕ) → k < suc (count_trailing_zeros 64 x / 8) → byte k x ≡ 0
    each k l = by (ltb k (zeros x)) (λ t. byte-zeros k x (ltb-true k (zeros x) t)) (λ u. at k (ltb-false k (zeros x) u) l)
      where
        at : (k : ℕ) → zeros x ≤ k → k < suc (zeros x) → byte k x ≡ 0
        at k a b = let q : k ≡ zeros x = omega arith in ap (λ (j : ℕ). byte j x) q ∙ e

pub zeros-few : (x : ℕ) → x < 2 ^ 64 → (x ≡ 0 → ⊥) → zeros x < 8
zeros-few x h n = by (ltb (zeros x) 8) (λ t. ltb-true (zeros x) 8 t) (λ u. absurd (n (none (ltb-false (zeros x) 8 u))))
  where
    none : 8 ≤ zeros x → x ≡ 0
    none l = let z : x % 2 ^ 64 ≡ 0 = bytes-zero 8 x (λ k m. byte-zeros k x (omega arith)) in omega arith

pub zeros-le : (x : ℕ) → zeros x ≤ 8
unfolding zeros
zeros-le x = omega (arith, trailing_le 64 x)

pub zeros-all : (x : ℕ) → x ≡ 0 → zeros x ≡ 8
unfolding zeros
zeros-all x e = omega (arith, ap (count_trailing_zeros 64) e ∙ trailing_of_zero 64)

-- ---- two numbers side by side

xor-equal : (a b : ℕ) → bit_xor a b ≡ 0 → a ≡ b
xor-equal a b e = omega (arith, xor_add_and a b, and_le_l a b, and_le_r a b)

pub same-xor : (a b : ℕ) → Same a b (zeros (bit_xor a b))
same-xor a b k h = xor-equal (byte k a) (byte k b) (sym (byte-xor k a b) ∙ byte-zeros k (bit_xor a b) h)

pub xor-differs : (a b k : ℕ) → k ≡ zeros (bit_xor a b) → k < 8 → byte k a ≡ byte k b → ⊥
xor-differs a b k z h e =
    let same : byte k (bit_xor a b) ≡ 0 = byte-xor k a b ∙ ap (bit_xor (byte k a)) (sym e) ∙ xor_self (byte k a) in
    byte-first (bit_xor a b) (omega arith) (ap (λ (j : ℕ). byte j (bit_xor a b)) (sym z) ∙ same)
