-- Bytes that are no digits, marked by arithmetic: in a byte by itself, and in all eight of a number at once.
use Rattle.std.proofs.Common.{◌≡◌, ℕ, zero, suc, ◌+◌, ◌/◌, ◌%◌, ◌<◌, ◌≤◌, Bool, true, false, not, ◌||◌, eqb, sym, refl, ap, ◌∙◌, ap₂, arith, lit<}
use Rattle.std.proofs.Common.{eq-eqb, ne_eqb}
use lib.Bits.{bit_and, bit_or, bit_xor, and_le_r}
use Rattle.rules.specs.Bytes.{among}
use Rattle.rules.specs.Numbers.{is_digit}
use Rattle.bytes_eights.specs.Words.{byte, zeros, DigitsTo}
use Rattle.bytes_eights.proofs.Words.{byte-lt, byte-and, byte_or, byte-xor, byte-zeros, byte-first, zeros-le}
use Rattle.bytes_eights.proofs.Marks.{all_below, all-below, not-true, eight, byte-eight}

-- what is not zero where w is no digit: high bits h, low bits l, the digit zero z and what lifts a ten t, for one byte or for many
abbrev marks : (h l z t : ℕ) → ℕ → ℕ
marks h l z t w = bit_and (bit_or (bit_and (bit_xor w z) l + t) (bit_xor w z)) h

abbrev mark : ℕ → ℕ
mark = marks 0x80 0x7F 0x30 0x76

-- ---- one byte: all 256 are tried

unfoldable fine : ℕ → Bool
fine x = not (eqb (mark x) 0) || is_digit x

all-fine : all_below 256 fine ≡ true
unfolding all_below fine is_digit among
all-fine = refl

digit-unmarked : (x : ℕ) → x < 256 → mark x ≡ 0 → is_digit x ≡ true
unfolding fine
digit-unmarked x h e = sym (rw (fine, eq-eqb (mark x) 0 e)) ∙ all-below 256 fine all-fine x h

unfoldable marks_none : ℕ → Bool
marks_none x = eqb (mark x) 0 || not (is_digit x)

all-marks_none : all_below 256 marks_none ≡ true
unfolding all_below marks_none is_digit among
all-marks_none = refl

no-digit-marked : (x : ℕ) → x < 256 → (mark x ≡ 0 → ⊥) → is_digit x ≡ false
unfolding marks_none
no-digit-marked x h n = not-true (is_digit x) (sym (rw (marks_none, ne_eqb (mark x) 0 n)) ∙ all-below 256 marks_none all-marks_none x h)

-- ---- eight bytes

-- sums that stay within each byte
byte-sum : (k a b : ℕ) → ((j : ℕ) → j ≤ k → byte j a + byte j b < 256) → byte k (a + b) ≡ byte k a + byte k b
unfolding byte
byte-sum zero a b h = let l : a % 256 + b % 256 < 256 = h 0 (omega arith) in omega arith
byte-sum (suc k) a b h =
    let l : a % 256 + b % 256 < 256 = h 0 (omega arith) in
    let e : (a + b) / 256 ≡ a / 256 + b / 256 = omega arith in
    ap (byte k) e ∙ byte-sum k (a / 256) (b / 256) (λ j m. h (suc j) (omega arith))

module _ (w : ℕ) where
  other : (k : ℕ) → k < 8 → byte k (bit_xor w (eight 0x30)) ≡ bit_xor (byte k w) 0x30
  other k h = byte-xor k w (eight 0x30) ∙ ap (bit_xor (byte k w)) (byte-eight 0x30 (lit< tt) k h)

  low : (k : ℕ) → k < 8 → byte k (bit_and (bit_xor w (eight 0x30)) (eight 0x7F)) ≡ bit_and (bit_xor (byte k w) 0x30) 0x7F
  low k h = byte-and k _ (eight 0x7F) ∙ ap₂ bit_and (other k h) (byte-eight 0x7F (lit< tt) k h)

  lifted : (k : ℕ) → k < 8 → byte k (bit_and (bit_xor w (eight 0x30)) (eight 0x7F) + eight 0x76) ≡ bit_and (bit_xor (byte k w) 0x30) 0x7F + 0x76
  lifted k h =
      byte-sum k _ (eight 0x76) (λ j m. omega (arith, low j (omega arith), and_le_r (bit_xor (byte j w) 0x30) 0x7F, byte-eight 0x76 (lit< tt) j (omega arith)))
      ∙ ap₂ (λ (x y : ℕ). x + y) (low k h) (byte-eight 0x76 (lit< tt) k h)

  abbrev marked : ℕ
  marked = marks (eight 0x80) (eight 0x7F) (eight 0x30) (eight 0x76) w

  byte-marked : (k : ℕ) → k < 8 → byte k marked ≡ mark (byte k w)
  byte-marked k h =
      byte-and k _ _ ∙ ap₂ bit_and
      (byte_or k _ _ ∙ ap₂ bit_or (lifted k h) (other k h))
      (byte-eight 0x80 (lit< tt) k h)

  pub digits-marked : DigitsTo w (zeros marked)
  digits-marked = (
    λ k h. digit-unmarked (byte k w) (byte-lt k w) (sym (byte-marked k (omega (arith, zeros-le marked))) ∙ byte-zeros k marked h),
    λ h. no-digit-marked (byte (zeros marked) w) (byte-lt (zeros marked) w) (λ e. byte-first marked h (byte-marked (zeros marked) h ∙ e)),
  )
