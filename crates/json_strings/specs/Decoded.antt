-- A JSON string by a text and the position behind its opening quote, and the bytes that it stands for.
use Rattle.std.specs.Prelude.{◌≡◌, [], ℕ, drop}
use Rattle.std.specs.Prelude.{Option, None, Some}
use Rattle.rules.specs.Bytes.{Bytes}
use Rattle.rules.specs.Json.Text.{Text, behind}
use Rattle.rules.specs.Json.Strings.{string}

-- what is taken, alone; nothing where nothing is
unfoldable pub bytes_of : Option (Bytes × Text) → Bytes
bytes_of None = []
bytes_of (Some p) = p.0

-- the bytes of the string that t begins with
unfoldable pub decoded : Text → Bytes
decoded t = bytes_of (string t)

-- a string is spelled behind `at`, and ends before `end`
pub record WellSpelled (s : Text) (at : ℕ) : Type 0 where
  pub end : ℕ
  pub closed : behind (string (drop at s)) ≡ Some (drop end s)
