-- Runs of plain bytes.
use Rattle.std.specs.Prelude.{◌≡◌, true, false, ℕ, ◌+◌, ◌≤◌, ◌<◌, length, get_or}
use Rattle.rules.specs.Json.Text.{Text}
use Rattle.rules.specs.Json.Strings.{is_plain}

-- from a up to b each byte is a character by itself
abbrev pub Plains : Text → (a b : ℕ) → Type 0
Plains s a b = (j : ℕ) → a ≤ j → j < b → is_plain (get_or s j 0) ≡ true

-- and at b, if there is such a place, stands one that is none
abbrev pub Run : Text → (a b : ℕ) → Type 0
Run s a b = (a ≤ b) × (b ≤ length s) × Plains s a b × (b < length s → is_plain (get_or s b 0) ≡ false)

-- from `at` up to the quote at i each byte is a character by itself
abbrev pub Closing : Text → (at i : ℕ) → Type 0
Closing s at i = (at ≤ i) × (i < length s) × Plains s at i × (get_or s i 0 ≡ 0x22)

-- r is behind such a quote, wherever there is one; else it is 0
abbrev pub Closes : Text → (at r : ℕ) → Type 0
Closes s at r = ((i : ℕ) → r ≡ i + 1 → Closing s at i) × ((i : ℕ) → Closing s at i → r ≡ i + 1)
