-- A name that was read, with its place among the names of a kind. No two answers are so (proofs/Alone.antt).
use Rattle.std.specs.Prelude.{◌≡◌, List, ℕ, drop}
use Rattle.std.specs.Prelude.{None}
use Rattle.rules.specs.Bytes.{Bytes, ◌>>=◌}
use Rattle.rules.specs.Json.Text.{Text, byte}
use Rattle.rules.specs.Json.Strings.{string}
use Rattle.field_names.specs.Spelled.{name_in, Quoted}
use Rattle.field_names.specs.Kinds.{seek}
use Rattle.std.specs.Prelude.{Option, Some}
use Rattle.field_names.specs.declared.keys.Spell.{Spell}

abbrev pub KnownIs : Text → (at : ℕ) → List Bytes → Option (Spell × ℕ) → Type 0
KnownIs s at names (Some (n, k)) = Quoted s at n × (k ≡ seek (name_in s n) names)
KnownIs s at names None = (byte 0x22 (drop at s) >>= string) ≡ None
