-- A string's text byte by byte: what it stands for up to its quote, where a byte that is no quote and no backslash stands for itself.
-- For well spelled strings this is what `string` gives (proofs/Raw.antt), and it says nothing of characters.
use Rattle.std.specs.Prelude.{true, false, [], ◌∷◌, ◌++◌, ℕ, zero, suc, ◌-◌, eqb, length, drop}
use Rattle.std.specs.Prelude.{Option, None, Some}
use Rattle.rules.specs.Bytes.{Bytes}
use Rattle.rules.specs.Json.Text.{Text}
use Rattle.rules.specs.Json.Strings.{utf8, escaped}

-- the code point of an escape in UTF-8, and then the rest; nothing where it is none
unfoldable pub meant : (Text → Bytes) → Option (ℕ × Text) → Bytes
meant rest None = []
meant rest (Some p) = utf8 p.0 ++ rest p.1

-- of fewer bytes and escapes than the bound
unfoldable pub flat_in : (bound : ℕ) → Text → Bytes
flat_in zero t = []
flat_in (suc n) [] = []
flat_in (suc n) (b ∷ t) = elim (eqb b 0x22) [
  | true ↦ []
  | false ↦ elim (eqb b 0x5C) [ true ↦ meant (flat_in n) (escaped t) | false ↦ b ∷ flat_in n t ]
]

unfoldable pub flat : Text → Bytes
flat t = flat_in (suc (length t)) t

-- the last n bytes
unfoldable pub last_of : ℕ → Bytes → Bytes
last_of n x = drop (length x - n) x
