-- Numbers of 64 bits as eight bytes.
use Rattle.std.specs.Prelude.{◌≡◌, ℕ, zero, suc, ◌+◌, ◌/◌, ◌%◌, ◌<◌, true, false, List, slice_index}
use Rattle.std.specs.Int.Count.{count_trailing_zeros}
use Rattle.rules.specs.Numbers.{is_digit}
use Rattle.rules.specs.Json.Strings.{is_plain}

-- byte k of a number: byte 0 is the lowest
unfoldable pub byte : ℕ → ℕ → ℕ
byte zero w = w % 256
byte (suc k) w = byte k (w / 256)

-- w is the eight bytes of s from i on
abbrev pub Eight : ℕ → List ℕ → ℕ → Type 0
Eight w s i = (k : ℕ) → k < 8 → byte k w ≡ slice_index s (i + k)

-- so many first bytes of a number of 64 bits are zero
unfoldable pub zeros : ℕ → ℕ
zeros m = count_trailing_zeros 64 m / 8

-- the first n bytes of two numbers are the same
abbrev pub Same : ℕ → ℕ → ℕ → Type 0
Same a b n = (k : ℕ) → k < n → byte k a ≡ byte k b

-- the first n bytes are characters by themselves
abbrev pub Plain : ℕ → ℕ → Type 0
Plain w n = (k : ℕ) → k < n → is_plain (byte k w) ≡ true

-- these n, and of eight bytes the next is none
abbrev pub PlainTo : ℕ → ℕ → Type 0
PlainTo w n = Plain w n × (n < 8 → is_plain (byte n w) ≡ false)

-- the first n bytes are digits
abbrev pub Digits : ℕ → ℕ → Type 0
Digits w n = (k : ℕ) → k < n → is_digit (byte k w) ≡ true

-- these n, and of eight bytes the next is none
abbrev pub DigitsTo : ℕ → ℕ → Type 0
DigitsTo w n = Digits w n × (n < 8 → is_digit (byte n w) ≡ false)
