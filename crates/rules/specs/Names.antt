-- What a name in the bundle says.
use Rattle.std.specs.Prelude.{Bool, true, false, List, [], ◌∷◌, ℕ, leb, eqb, take, drop}
use Rattle.std.specs.Prelude.{Option, None, Some}
use Rattle.rules.specs.Bytes.{Bytes, ascii, same}
use Rattle.rules.specs.Numbers.{decimal, most}
use Rattle.rules.specs.Bundle.{File}

pub data Name : Type 0 where
  version : ℕ → Name
  checkpoint : ℕ → Name
  marker : Name
  other : Name
  too_large : Name

-- by the ending behind the digits, and whether the number is at most 2^63 - 1
unfoldable pub numbered : (is_version is_checkpoint small : Bool) → ℕ → Name
numbered true c true n = version n
numbered true c false n = too_large
numbered false true true n = checkpoint n
numbered false true false n = too_large
numbered false false small n = other

unfoldable pub with_ending : Option ℕ → (ending : Bytes) → Name
with_ending None ending = other
with_ending (Some n) ending = numbered (same ending (ascii ".json")) (same ending (ascii ".checkpoint.json")) (leb n most) n

-- twenty decimal digits and an ending; what is shorter than the digits has no ending
unfoldable pub name_of : Bytes → Name
name_of s = elim (same s (ascii "_last_checkpoint")) [ true ↦ marker | false ↦ with_ending (decimal (take 20 s)) (drop 20 s) ]

-- ---- one file among the others

unfoldable pub version_in : Name → Option ℕ
version_in (version n) = Some n
version_in (checkpoint n) = None
version_in marker = None
version_in other = None
version_in too_large = None

unfoldable pub checkpoint_in : Name → Option ℕ
checkpoint_in (version n) = None
checkpoint_in (checkpoint n) = Some n
checkpoint_in marker = None
checkpoint_in other = None
checkpoint_in too_large = None

unfoldable pub is_marker : Name → Bool
is_marker (version n) = false
is_marker (checkpoint n) = false
is_marker marker = true
is_marker other = false
is_marker too_large = false

unfoldable pub is_too_large : Name → Bool
is_too_large (version n) = false
is_too_large (checkpoint n) = false
is_too_large marker = false
is_too_large other = false
is_too_large too_large = true

unfoldable pub is : ℕ → Option ℕ → Bool
is n None = false
is n (Some m) = eqb n m

-- refusal 3: a version in some name is too large
unfoldable pub any_too_large : List File → Bool
any_too_large [] = false
any_too_large (f ∷ fs) = elim (is_too_large (name_of f.name)) [ true ↦ true | false ↦ any_too_large fs ]
