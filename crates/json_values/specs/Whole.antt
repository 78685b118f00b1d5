-- A member's name with its colon, and a whole text, in the rules' terms: two readings that the rules have inside others.
use Rattle.std.specs.Prelude.{Bool, false, ℕ}
use Rattle.std.specs.Prelude.{None, Some}
use Rattle.rules.specs.Bytes.{◌>>=◌, is_empty}
use Rattle.rules.specs.Json.Text.{Text, Reader, behind, ws, byte}
use Rattle.rules.specs.Json.Strings.{string}
use Rattle.rules.specs.Json.Values.{colon, value}

-- a member up to its value: string name-separator
unfoldable pub name : Reader
name t = do
  n ← byte 0x22 t
  r ← behind (string n)
  colon r

-- JSON-text = ws value ws, and nothing more; objects and arrays nest at most d deep
unfoldable pub is_json : (d : ℕ) → Text → Bool
is_json d t = elim (value d (ws t)) [ None ↦ false | Some r ↦ is_empty (ws r) ]
