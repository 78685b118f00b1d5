-- Bytes that are no plain characters, marked by arithmetic: in a byte by itself, and in all eight of a number at once.
use Rattle.std.proofs.Common.{◌≡◌, ℕ, zero, suc, ◌+◌, ◌%◌, ◌^◌, ◌<◌, ◌≤◌, Bool, true, false, not, ◌&&◌, ◌||◌, eqb, leb, sym, refl, ap, ◌∙◌, ap₂}
use Rattle.std.proofs.Common.{le_of_suc-le-suc, arith, lit<, eq-eqb, ne_eqb, eqb-true, leb-true}
use lib.Arith.{lt_of_le-ne}
use lib.Bits.{bit_and, bit_or, bit_xor}
use borrow.Author.Tests.{eqb-false}
use Rattle.rules.specs.Bytes.{among, first}
use Rattle.rules.specs.Json.Strings.{is_plain}
use Rattle.rules.proofs.Tests.{by, and_left, and_right}
use Rattle.bytes_eights.specs.Words.{byte, zeros, PlainTo}
use Rattle.bytes_eights.proofs.Words.{joined, byte-lt, byte-joined, byte-and, byte_or, byte-xor, less, byte-less, byte-zeros, byte-first, zeros-le}

-- the highest bit of a byte x is set in one of three: where x is the quote, the backslash, a control, or past ASCII
abbrev mark : ℕ → ℕ
mark x = bit_and (bit_or (bit_or (less (bit_xor x 0x22) 1) (less (bit_xor x 0x5C) 1)) (less x 0x20)) 0x80

-- ---- one byte: all 256 are tried

unfoldable pub all_below : ℕ → (ℕ → Bool) → Bool
all_below zero f = true
all_below (suc n) f = f n && all_below n f

pub all-below : (n : ℕ) (f : ℕ → Bool) → all_below n f ≡ true → (k : ℕ) → k < n → f k ≡ true
unfolding all_below
all-below zero f e k h = absurd (omega arith)
all-below (suc n) f e k h =
    by (eqb k n) (λ t. ap f (eqb-true k n t) ∙ and_left (f n) (all_below n f) e)
    (λ u. all-below n f (and_right (f n) (all_below n f) e) k (lt_of_le-ne (le_of_suc-le-suc h) (eqb-false k n u)))

-- a plain character, of which no difference goes below zero
unfoldable clear : ℕ → Bool
clear x = is_plain x && (leb 1 (bit_xor x 0x22) && (leb 1 (bit_xor x 0x5C) && leb 0x20 x))

unfoldable fine : ℕ → Bool
fine x = not (eqb (mark x) 0) || clear x

all-fine : all_below 256 fine ≡ true
unfolding all_below fine clear is_plain first among
all-fine = refl

clear-unmarked : (x : ℕ) → x < 256 → mark x ≡ 0 → clear x ≡ true
unfolding fine
clear-unmarked x h e = sym (rw (fine, eq-eqb (mark x) 0 e)) ∙ all-below 256 fine all-fine x h

unfoldable marks_none : ℕ → Bool
marks_none x = eqb (mark x) 0 || not (is_plain x)

all-marks_none : all_below 256 marks_none ≡ true
unfolding all_below marks_none is_plain first among
all-marks_none = refl

pub not-true : (b : Bool) → not b ≡ true → b ≡ false
not-true true e = cc
not-true false e = refl

not-plain-marked : (x : ℕ) → x < 256 → (mark x ≡ 0 → ⊥) → is_plain x ≡ false
unfolding marks_none
not-plain-marked x h n = not-true (is_plain x) (sym (rw (marks_none, ne_eqb (mark x) 0 n)) ∙ all-below 256 marks_none all-marks_none x h)

module _ (x : ℕ) (c : clear x ≡ true) where
  clear-plain : is_plain x ≡ true
  unfolding clear
  clear-plain = and_left (is_plain x) _ c

  clear-rest : (leb 1 (bit_xor x 0x22) && (leb 1 (bit_xor x 0x5C) && leb 0x20 x)) ≡ true
  unfolding clear
  clear-rest = and_right (is_plain x) _ c

  clear-quote : 1 ≤ bit_xor x 0x22
  clear-quote = leb-true _ _ (and_left (leb 1 (bit_xor x 0x22)) _ clear-rest)

  clear-backslash : 1 ≤ bit_xor x 0x5C
  clear-backslash = leb-true _ _ (and_left (leb 1 (bit_xor x 0x5C)) _ (and_right (leb 1 (bit_xor x 0x22)) _ clear-rest))

  clear-control : 0x20 ≤ x
  clear-control = leb-true _ _ (and_right (leb 1 (bit_xor x 0x5C)) _ (and_right (leb 1 (bit_xor x 0x22)) _ clear-rest))

-- ---- eight bytes

-- eight times the byte c
abbrev pub eight : ℕ → ℕ
eight c = joined 8 (λ k. c)

pub byte-eight : (c : ℕ) → c < 256 → (k : ℕ) → k < 8 → byte k (eight c) ≡ c
byte-eight c h = byte-joined 8 (λ k. c) (λ k. h)

-- a number less eight times the byte y, as far as no byte takes from the next
less-eight : (a d y : ℕ) → y < 256 → (d + eight y) % 2 ^ 64 ≡ a → (k : ℕ) → k < 8 → ((j : ℕ) → j < k → y ≤ byte j a) → byte k d ≡ less (byte k a) y
less-eight a d y l e k h f =
    byte-less k 8 a (eight y) d h e (λ j m. omega (arith, byte-eight y l j (omega arith), f j m)) ∙ ap (less (byte k a)) (byte-eight y l k h)

-- the differences of a number w: less the quotes, the backslashes and the spaces
module _ (w q b c : ℕ)
    (quotes : (q + eight 1) % 2 ^ 64 ≡ bit_xor w (eight 0x22))
    (backslashes : (b + eight 1) % 2 ^ 64 ≡ bit_xor w (eight 0x5C))
    (controls : (c + eight 0x20) % 2 ^ 64 ≡ w) where
  abbrev marked : ℕ
  marked = bit_and (bit_or (bit_or q b) c) (eight 0x80)

  other : (y : ℕ) → y < 256 → (k : ℕ) → k < 8 → byte k (bit_xor w (eight y)) ≡ bit_xor (byte k w) y
  other y l k h = byte-xor k w (eight y) ∙ ap (bit_xor (byte k w)) (byte-eight y l k h)

  -- byte k, where those below it are clear
  module _ (k : ℕ) (h : k < 8) (below : (j : ℕ) → j < k → clear (byte j w) ≡ true) where
    byte-quotes : byte k q ≡ less (bit_xor (byte k w) 0x22) 1
    byte-quotes =
        less-eight _ q 1 (lit< tt) quotes k h (λ j m. omega (arith, other 0x22 (lit< tt) j (omega arith), clear-quote (byte j w) (below j m)))
        ∙ ap (λ (x : ℕ). less x 1) (other 0x22 (lit< tt) k h)

    byte-backslashes : byte k b ≡ less (bit_xor (byte k w) 0x5C) 1
    byte-backslashes =
        less-eight _ b 1 (lit< tt) backslashes k h (λ j m. omega (arith, other 0x5C (lit< tt) j (omega arith), clear-backslash (byte j w) (below j m)))
        ∙ ap (λ (x : ℕ). less x 1) (other 0x5C (lit< tt) k h)

    byte-controls : byte k c ≡ less (byte k w) 0x20
    byte-controls = less-eight w c 0x20 (lit< tt) controls k h (λ j m. clear-control (byte j w) (below j m))

    byte-marked : byte k marked ≡ mark (byte k w)
    byte-marked =
        byte-and k _ _ ∙ ap₂ bit_and
        (byte_or k _ _ ∙ ap₂ bit_or (byte_or k _ _ ∙ ap₂ bit_or byte-quotes byte-backslashes) byte-controls)
        (byte-eight 0x80 (lit< tt) k h)

  clear-below : (n : ℕ) → n ≤ zeros marked → (k : ℕ) → k < n → clear (byte k w) ≡ true
  clear-below zero h k l = absurd (omega arith)
  clear-below (suc n) h k l =
      clear-unmarked (byte k w) (byte-lt k w)
      (sym (byte-marked k (omega (arith, zeros-le marked)) (λ j m. clear-below n (omega arith) j (omega arith))) ∙ byte-zeros k marked (omega arith))

  pub plain-marked : PlainTo w (zeros marked)
  plain-marked = (
    λ k h. clear-plain (byte k w) (clear-below (zeros marked) (omega arith) k h),
    λ h. not-plain-marked (byte (zeros marked) w) (byte-lt (zeros marked) w)
        (λ e. byte-first marked h (byte-marked (zeros marked) h (clear-below (zeros marked) (omega arith)) ∙ e)),
  )
