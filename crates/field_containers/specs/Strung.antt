-- An array of strings in a text, by positions: as it was found, and as it is met again.
use Rattle.std.specs.Prelude.{◌≡◌, List, ℕ, suc, ◌+◌, ◌≤◌, length, drop}
use Rattle.std.specs.Prelude.{Option, None, Some}
use Rattle.rules.specs.Bytes.{Bytes, ◌>>=◌}
use Rattle.rules.specs.Json.Text.{Text, spelled}
use Rattle.rules.specs.Json.Values.{items, elements, value}
use Rattle.rules.specs.Json.Fields.{strings}

-- o is what the rules say of the array behind whose bracket `at` is: n strings
pub record Strung (o : Option (List Text × Text)) (s : Text) (at n end : ℕ) : Type 0 where
  pub vs : List Text
  pub ss : List Bytes
  pub all : o ≡ Some (vs, drop end s)
  pub each : strings vs ≡ Some ss
  pub count : length ss ≡ n
  pub from : at + 1 ≤ end
  pub within : end ≤ length s

abbrev pub StringsIs : Option (List Text × Text) → Text → (at : ℕ) → Option (ℕ × ℕ) → Type 0
StringsIs o s at (Some (n, end)) = Strung o s at n end
StringsIs o s at None = (o >>= (λ p. strings p.0)) ≡ None

-- behind the bracket before `at` stands an array of the strings ss, however deep values may nest
pub record Listed (s : Text) (at : ℕ) (ss : List Bytes) : Type 0 where
  pub depth : ℕ
  pub vs : List Text
  pub left : Text
  pub all : elements (value depth) (drop at s) ≡ Some (vs, left)
  pub each : strings vs ≡ Some ss

-- and so it is of some strings
pub record IsList (s : Text) (at : ℕ) : Type 0 where
  pub ss : List Bytes
  pub listed : Listed s at ss

-- the same of its elements from the one at i on
pub record Onward (s : Text) (i : ℕ) (ss : List Bytes) : Type 0 where
  pub depth : ℕ
  pub vs : List Text
  pub left : Text
  pub all : items (spelled (value depth)) 0x5D (suc (length (drop i s))) (drop i s) ≡ Some (vs, left)
  pub each : strings vs ≡ Some ss
