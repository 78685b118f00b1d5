-- A name as it stands in a text, by positions.
use Rattle.std.specs.Prelude.{◌≡◌, true, false, ℕ, ◌+◌, ◌-◌, ◌≤◌, ◌<◌, length, take, drop}
use Rattle.std.specs.Prelude.{None, Some}
use Rattle.rules.specs.Bytes.{Bytes, ◌>>=◌}
use Rattle.rules.specs.Json.Text.{Text, behind, byte}
use Rattle.rules.specs.Json.Strings.{string}
use Rattle.json_strings.specs.Decoded.{decoded}
use Rattle.field_names.specs.declared.keys.Spell.{Spell}
use Rattle.std.specs.Prelude.{Option}

-- the bytes that it stands for
abbrev pub name_in : Text → Spell → Bytes
name_in s n = decoded (drop n.at s)

pub record Named (s : Text) (n : Spell) : Type 0 where
  pub closed : behind (string (drop n.at s)) ≡ Some (drop n.end s)
  pub from : n.at + 1 ≤ n.end
  pub within : n.end ≤ length s
  pub raw : n.plain ≡ true → name_in s n ≡ take (n.end - 1 - n.at) (drop n.at s)
  pub fewer : n.plain ≡ false → length (name_in s n) < n.end - 1 - n.at

-- in quotes, the first at `at`
pub record Quoted (s : Text) (at : ℕ) (n : Spell) : Type 0 where
  pub quote : byte 0x22 (drop at s) ≡ Some (drop n.at s)
  pub from : at + 1 ≤ n.at
  pub named : Named s n

abbrev pub NameIs : Text → (at : ℕ) → Option Spell → Type 0
NameIs s at (Some n) = Quoted s at n
NameIs s at None = (byte 0x22 (drop at s) >>= string) ≡ None
