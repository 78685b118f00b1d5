-- Code units, of four hexadecimal digits: what a turn of the loop over the digits keeps.
use mathlib.Core.Path.{◌≡◌, refl, ap, ◌∙◌}
use Rattle.std.specs.Prelude.{Option, None, Some}
use Prim.Native.Nat.{ℕ, zero, suc, ◌+◌, ◌-◌, ◌*◌, ◌≤◌, ◌<◌}
use native.Mathlib.Numerals.{sub-one}
use native.Mathlib.Omega.{arith}
use lib.Dec.{ltb}
use lib.ListN.{length, drop, get_or}
use borrow.Author.Tests.{ltb-true, ltb-false}
use Rattle.rules.specs.Bytes.{◌>>=◌}
use Rattle.rules.specs.Json.Text.{Text}
use Rattle.rules.specs.Json.Strings.{hex_digit, hex_digits, code_unit}
use Rattle.rules.proofs.Tests.{by}
use Rattle.json_tokens.proofs.Places.{here, ended}

-- what the digits that stand before the last k of four stay below
unfoldable pub room : ℕ → ℕ
room zero = 0x1_0000
room (suc zero) = 0x1000
room (suc (suc zero)) = 0x100
room (suc (suc (suc zero))) = 0x10
room (suc (suc (suc (suc zero)))) = 1
room (suc (suc (suc (suc (suc k))))) = 0

room-more : (k u d : ℕ) → 0 < k → u < room k → d ≤ 0xF → u * 16 + d < room (k - 1)
unfolding room
room-more zero u d p h l = absurd (omega arith)
room-more (suc zero) u d p h l = omega arith
room-more (suc (suc zero)) u d p h l = omega arith
room-more (suc (suc (suc zero))) u d p h l = omega arith
room-more (suc (suc (suc (suc zero)))) u d p h l = omega arith
room-more (suc (suc (suc (suc (suc k))))) u d p h l = absurd (omega arith)

room_most : (k u : ℕ) → u < room k → u ≤ 0xFFFF
unfolding room
room_most zero u h = omega arith
room_most (suc zero) u h = omega arith
room_most (suc (suc zero)) u h = omega arith
room_most (suc (suc (suc zero))) u h = omega arith
room_most (suc (suc (suc (suc zero)))) u h = omega arith
room_most (suc (suc (suc (suc (suc k))))) u h = absurd (omega arith)

hex_digits-more : (k u d : ℕ) (s : Text) (i : ℕ) → 0 < k → i < length s → hex_digit (get_or s i 0) ≡ Some d
    → hex_digits k u (drop i s) ≡ hex_digits (k - 1) (u * 16 + d) (drop (i + 1) s)
unfolding hex_digits
hex_digits-more zero u d s i p h e = absurd (omega arith)
hex_digits-more (suc k) u d s i p h e = rw (sub-one, here s i h, hex_digits, e)

hex_digits-other : (k u : ℕ) (s : Text) (i : ℕ) → 0 < k → i < length s → hex_digit (get_or s i 0) ≡ None → hex_digits k u (drop i s) ≡ None
unfolding hex_digits
hex_digits-other zero u s i p h e = absurd (omega arith)
hex_digits-other (suc k) u s i p h e = rw (here s i h, hex_digits, e)

-- fewer digits than k to the end of the text are too few
hex_digits-short : (k u : ℕ) (s : Text) (i : ℕ) → i ≤ length s → length s < i + k → hex_digits k u (drop i s) ≡ None
unfolding hex_digits
hex_digits-short zero u s i h l = absurd (omega arith)
hex_digits-short (suc k) u s i h l =
    by (ltb i (length s))
    (λ t.
    let m = ltb-true i (length s) t in
    rw (here s i m, hex_digits) (each (hex_digit (get_or s i 0)) (λ d. hex_digits-short k (u * 16 + d) s (i + 1) (omega arith) (omega arith))))
    (λ t. rw (ended s i (ltb-false i (length s) t)))
  where
    each : {f : ℕ → Option (ℕ × Text)} (o : Option ℕ) → ((d : ℕ) → f d ≡ None) → (o >>= f) ≡ None
    each None none = refl
    each (Some d) none = none d

pub unit-short : (s : Text) (at : ℕ) → at ≤ length s → length s < at + 4 → code_unit (drop at s) ≡ None
unfolding code_unit
unit-short s at h l = hex_digits-short 4 0 s at h l

hex_digits-end : (k u : ℕ) (t : Text) → k ≤ 0 → hex_digits k u t ≡ Some (u, t)
unfolding hex_digits
hex_digits-end zero u t h = refl
hex_digits-end (suc k) u t h = absurd (omega arith)

-- the digits from `at` on up to i stand for u, and k of the four are left
pub record Spelt (s : Text) (at i u : ℕ) : Type 0 where
  pub k : ℕ
  pub left : i + k ≡ at + 4
  pub same : code_unit (drop at s) ≡ hex_digits k u (drop i s)
  pub small : u < room k

pub spelt-start : (s : Text) (at : ℕ) → Spelt s at at 0
unfolding code_unit room
spelt-start s at = record { k = 4; left = refl; same = refl; small = omega arith }

module _ {s : Text} {at i u : ℕ} (m : Spelt s at i u) where
  module _ (p : i < at + 4) where
    some : 0 < m.k
    some = omega (arith, m.left)

    pub spelt-room : (d : ℕ) → d ≤ 0xF → u * 16 + d ≤ 0xFFFF
    spelt-room d l = room_most (m.k - 1) (u * 16 + d) (room-more m.k u d some m.small l)

    module _ (h : i < length s) where
      pub spelt-more : {d : ℕ} → hex_digit (get_or s i 0) ≡ Some d → d ≤ 0xF → Spelt s at (i + 1) (u * 16 + d)
      spelt-more {d = d} e l =
          record {
            k = m.k - 1;
            left = omega (arith, m.left, some);
            same = m.same ∙ hex_digits-more m.k u d s i some h e;
            small = room-more m.k u d some m.small l;
          }

      pub spelt-other : hex_digit (get_or s i 0) ≡ None → code_unit (drop at s) ≡ None
      spelt-other e = m.same ∙ hex_digits-other m.k u s i some h e

  pub spelt-end : at + 4 ≤ i → (code_unit (drop at s) ≡ Some (u, drop (at + 4) s)) × (u ≤ 0xFFFF)
  spelt-end p =
      let place : i ≡ at + 4 = omega (arith, m.left) in
      (m.same ∙ hex_digits-end m.k u _ (omega (arith, m.left)) ∙ ap (λ (j : ℕ). Some (u, drop j s)) place, room_most m.k u m.small)
