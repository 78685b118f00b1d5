-- The string that the text of a value is, by the position behind its opening quote and the number of bytes that it stands for.
use Rattle.std.specs.Prelude.{◌≡◌, Bool, true, false, ℕ, ◌+◌, length, drop}
use Rattle.std.specs.Prelude.{Option, None, Some}
use Rattle.rules.specs.Bytes.{Bytes, ◌>>=◌, non_empty}
use Rattle.rules.specs.Json.Text.{Text}
use Rattle.rules.specs.Actions.{path}
use Rattle.json_strings.specs.Decoded.{decoded, WellSpelled}

pub record Read (o : Option Bytes) (s : Text) (p : ℕ) : Type 0 where
  pub spelled : WellSpelled s p
  pub says : o ≡ Some (decoded (drop p s))

-- the string whose text begins at v; two answers of which this is said are the same (proofs/Alone.antt)
abbrev pub StringIs : Option Bytes → Text → (v : ℕ) → Option (ℕ × ℕ) → Type 0
StringIs o s v (Some (p, n)) = Read o s p × (n ≡ length (decoded (drop p s))) × (p ≡ v + 1)
StringIs o s v None = o ≡ None

-- the path that a string is, and the id
abbrev pub path_of : Option Bytes → Option Bytes
path_of o = o >>= path

-- a string that is not empty, as an id is
abbrev pub id_of : Option Bytes → Option Bytes
id_of o = o >>= non_empty

-- whether there is an answer
abbrev pub Told : {A : Type 0} → Option A → Bool → Type 0
Told {A} o true = (a : A) × (o ≡ Some a)
Told o false = o ≡ None

-- the path whose text begins at v; one answer too
abbrev pub PathIs : Option Bytes → Text → (v : ℕ) → Option ℕ → Type 0
PathIs o s v (Some p) = Read o s p × (p ≡ v + 1)
PathIs o s v None = o ≡ None
