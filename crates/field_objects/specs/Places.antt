-- Where the values of an object's members stand in a text: behind their names and colons, each behind the comma of the one before.
use Rattle.std.specs.Prelude.{Option, None, Some}
use Rattle.std.specs.Prelude.{List, [], ◌∷◌, ℕ, ◌+◌, ◌-◌, length, drop}
use Rattle.rules.specs.Bytes.{Bytes, ◌>>=◌}
use Rattle.rules.specs.Json.Text.{Text, byte}
use Rattle.rules.specs.Json.Strings.{string}
use Rattle.rules.specs.Json.Values.{Behind, closed, onward, neither, opening, closing, Member, colon}

-- a member by its name, and from where to where its value stands
abbrev pub Placed : Type 0
Placed = Bytes × ℕ × ℕ

-- the next member, and all behind it
unfoldable pub next_in : Behind → Text
next_in (closed t) = []
next_in (onward t) = t
next_in neither = []

-- the value of the member that a text begins with, and all behind it
unfoldable pub value_in : Text → Option Text
value_in t = do
  n ← byte 0x22 t
  (name, r) ← string n
  colon r

unfoldable pub placed : (s : Text) → Member → Option Text → Placed
placed s m None = (m.0, 0, 0)
placed s m (Some v) = (m.0, length s - length v, length s - length v + length m.1)

unfoldable pub following : Member → Option Text → Text
following m None = []
following m (Some v) = next_in (closing 0x7D (drop (length m.1) v))

-- the members with which t, a part of s up to its end, begins
unfoldable pub places_from : (s t : Text) → List Member → List Placed
places_from s t [] = []
places_from s t (m ∷ ms) = placed s m (value_in t) ∷ places_from s (following m (value_in t)) ms

-- the members of the object behind whose brace `at` is
unfoldable pub places_in : (s : Text) → (at : ℕ) → List Member → List Placed
places_in s at ms = places_from s (next_in (opening 0x7D (drop at s))) ms
