-- Numbers as digits and as bytes.
use Rattle.std.specs.Prelude.{Bool, true, false, [], ◌∷◌, ℕ, zero, suc, ◌+◌, ◌*◌, ◌-◌, ◌/◌, ◌%◌, ltb}
use Rattle.std.specs.Prelude.{Option, None, Some}
use Rattle.rules.specs.Bytes.{Bytes, among}

-- 2^63 - 1: the highest version and the highest whole number
unfoldable pub most : ℕ
most = 9_223_372_036_854_775_807

unfoldable pub is_digit : ℕ → Bool
is_digit b = among 0x30 0x39 b

-- decimal digits to the end of the text, behind digits that stand for `sofar`
unfoldable pub decimal_from : ℕ → Bytes → Option ℕ
decimal_from sofar [] = Some sofar
decimal_from sofar (b ∷ bs) = elim (is_digit b) [ true ↦ decimal_from (sofar * 10 + (b - 0x30)) bs | false ↦ None ]

-- one decimal digit or more and nothing else, zeros in front allowed: the base is ten, whatever the first digit is
unfoldable pub decimal : Bytes → Option ℕ
decimal [] = None
decimal (b ∷ bs) = decimal_from 0 (b ∷ bs)

-- little-endian
unfoldable pub little : Bytes → ℕ
little [] = 0
little (b ∷ bs) = b + 256 * little bs

-- n in decimal digits in front of `behind`; n has fewer digits than the bound
unfoldable pub spell_before : (bound : ℕ) → ℕ → Bytes → Bytes
spell_before zero n behind = behind
spell_before (suc k) n behind = elim (ltb n 10) [ true ↦ (0x30 + n) ∷ behind | false ↦ spell_before k (n / 10) ((0x30 + n % 10) ∷ behind) ]

-- n in decimal digits, no zero in front
unfoldable pub spell : ℕ → Bytes
spell n = spell_before (suc n) n []
