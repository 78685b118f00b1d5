-- What the paper asks of members and of the texts of values: there, missing, null or twice; a string, a boolean, an array of strings.
use Rattle.std.specs.Prelude.{Bool, true, false, List, [], ◌∷◌, ℕ, ◌-◌, length, take, drop}
use Rattle.std.specs.Prelude.{Option, None, Some}
use Prim.Native.String.{String}
use Rattle.rules.specs.Bytes.{Bytes, ascii, ◌>>=◌, guard, first, same, is_empty}
use Rattle.rules.specs.Json.Text.{Text, byte}
use Rattle.rules.specs.Json.Numbers.{whole}
use Rattle.rules.specs.Json.Strings.{string}
use Rattle.rules.specs.Json.Values.{Member, array_of}

-- ---- fields, by the decoded bytes of their names

-- the texts of the values that stand under a name
unfoldable pub under : Bytes → List Member → List Text
under name [] = []
under name (m ∷ ms) = elim (same m.0 name) [ true ↦ m.1 ∷ under name ms | false ↦ under name ms ]

unfoldable pub sole : List Text → Option Text
sole [] = None
sole (v ∷ []) = Some v
sole (v ∷ w ∷ vs) = None

-- a field that must be there; twice is malformed
unfoldable pub once : String → List Member → Option Text
once name ms = sole (under (ascii name) ms)

unfoldable pub is_null : Text → Bool
is_null v = same v (ascii "null")

unfoldable pub sole_or_none : List Text → Option (Option Text)
sole_or_none [] = Some None
sole_or_none (v ∷ []) = elim (is_null v) [ true ↦ Some None | false ↦ Some (Some v) ]
sole_or_none (v ∷ w ∷ vs) = None

-- a field that may be missing or null, which are alike; twice is malformed
unfoldable pub optional : String → List Member → Option (Option Text)
optional name ms = sole_or_none (under (ascii name) ms)

-- no field of the name at all
unfoldable pub absent : String → List Member → Bool
absent name ms = is_empty (under (ascii name) ms)

-- ---- the text of a value

-- a string: the bytes that it stands for
unfoldable pub string_of : Text → Option Bytes
string_of v = do
  t ← byte 0x22 v
  (s, r) ← string t
  _ ← guard (is_empty r)
  Some s

-- a string as it is written, without its quotes
unfoldable pub unquoted : Text → Text
unquoted v = take (length v - 2) (drop 1 v)

unfoldable pub string_or_null : Text → Option (Option Bytes)
string_or_null v = elim (is_null v) [
  | true ↦ Some None
  | false ↦ do
    s ← string_of v
    Some (Some s)
]

unfoldable pub bool_of : Text → Option Bool
bool_of v = first ((same v (ascii "true"), Some true) ∷ (same v (ascii "false"), Some false) ∷ []) None

-- what `of` makes of a value that is there
unfoldable pub if_there : {A : Type 0} → (Text → Option A) → Option Text → Option (Option A)
if_there of None = Some None
if_there of (Some v) = do
  x ← of v
  Some (Some x)

unfoldable pub strings : List Text → Option (List Bytes)
strings [] = Some []
strings (v ∷ vs) = do
  s ← string_of v
  ss ← strings vs
  Some (s ∷ ss)

-- an array of strings
unfoldable pub strings_of : (d : ℕ) → Text → Option (List Bytes)
strings_of d v = do
  vs ← array_of d v
  strings vs

-- ---- fields of a kind

unfoldable pub string_at : String → List Member → Option Bytes
string_at name ms = do
  v ← once name ms
  string_of v

unfoldable pub whole_at : String → List Member → Option ℕ
whole_at name ms = do
  v ← once name ms
  whole v
