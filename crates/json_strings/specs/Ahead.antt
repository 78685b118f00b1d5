-- What a cursor stands for: the bytes that are to come; and what a step does.
use Rattle.std.specs.Prelude.{◌≡◌, true, false, [], ◌∷◌, ◌++◌, ℕ, zero, suc, ◌+◌, ◌-◌, ◌*◌, ◌≤◌, ◌<◌, eqb, length, drop}
use Rattle.std.specs.Prelude.{Option, None, Some}
use Rattle.rules.specs.Bytes.{Bytes}
use Rattle.rules.specs.Json.Text.{Text}
use Rattle.rules.specs.Json.Strings.{utf8, escaped}
use Rattle.json_strings.specs.Flat.{flat, last_of}
use Rattle.json_strings.specs.declared.cursors.Cursor.{Cursor}

-- at a byte of the text, in no escape
abbrev pub fresh : ℕ → Cursor
fresh at = record { at = at; code = 0; left = 0 }

unfoldable pub ahead : Text → Cursor → Bytes
ahead s c = last_of c.left (utf8 c.code) ++ flat (drop c.at s)

pub record Sound (s : Text) (c : Cursor) : Type 0 where
  pub within : c.at ≤ length s
  pub point : c.code ≤ 0x10FFFF
  pub part : c.left ≤ length (utf8 c.code)

-- falls with each step
abbrev pub distance : Text → Cursor → ℕ
distance s c = (length s - c.at) * 4 + c.left

-- where a cursor goes over a byte that is to come: within its code point; or, with no more of it, by the byte at which it stands,
-- into the code point of an escape or to the next byte
unfoldable pub into_escape : Text → Option (ℕ × Text) → Cursor
into_escape s None = fresh 0
into_escape s (Some p) = record { at = length s - length p.1; code = p.0; left = length (utf8 p.0) - 1 }

unfoldable pub next_at : Text → (at : ℕ) → Text → Cursor
next_at s at [] = fresh at
next_at s at (b ∷ t) = elim (eqb b 0x5C) [ true ↦ into_escape s (escaped t) | false ↦ fresh (at + 1) ]

unfoldable pub next_by : Text → Cursor → (left : ℕ) → Cursor
next_by s c zero = next_at s c.at (drop c.at s)
next_by s c (suc n) = record { at = c.at; code = c.code; left = n }

abbrev pub next_of : Text → Cursor → Cursor
next_of s c = next_by s c c.left

-- from c to d, over the byte b
pub record Went (s : Text) (c d : Cursor) (b : ℕ) : Type 0 where
  pub place : d ≡ next_of s c
  pub more : ahead s c ≡ b ∷ ahead s d
  pub sound : Sound s d
  pub nearer : distance s d < distance s c

abbrev pub Stepped : Text → Cursor → Option (ℕ × Cursor) → Type 0
Stepped s c (Some (b, d)) = Went s c d b
Stepped s c None = ahead s c ≡ []
