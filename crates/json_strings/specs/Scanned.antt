-- What a scan of a string promises.
use Rattle.std.specs.Prelude.{◌≡◌, ℕ, ◌+◌, ◌-◌, ◌≤◌, ◌<◌, length, take, drop}
use Rattle.std.specs.Prelude.{None, Some}
use Rattle.rules.specs.Json.Text.{Text, behind}
use Rattle.rules.specs.Json.Strings.{string}
use Rattle.json_strings.specs.Decoded.{decoded}
use Rattle.json_strings.specs.declared.spellings.Spelling.{Spelling}
use Rattle.json_strings.specs.declared.spellings.Spelling.TheVariants.{Plain, Escaped, Bad}

-- behind `at` stands a string that is spelled as the bytes that it stands for, or one with escapes, which stands for fewer bytes than
-- it is spelled with, up to i; or none. No two answers are so (proofs/Alone.antt)
abbrev pub Scanned : (s : Text) → (at : ℕ) → Spelling → Type 0
Scanned s at (Plain i) = (string (drop at s) ≡ Some (take (i - 1 - at) (drop at s), drop i s)) × (at + 1 ≤ i) × (i ≤ length s)
Scanned s at (Escaped i) = (behind (string (drop at s)) ≡ Some (drop i s)) × (at + 1 ≤ i) × (i ≤ length s) × (length (decoded (drop at s)) < i - 1 - at)
Scanned s at Bad = string (drop at s) ≡ None
