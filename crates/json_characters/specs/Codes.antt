-- What a scanner that reads a number answers, and the number that a byte stands for, in the rules' terms.
use Rattle.std.specs.Prelude.{◌≡◌, ℕ, ◌≤◌, length, drop}
use Rattle.std.specs.Prelude.{Option, None, Some}
use Rattle.rules.specs.Json.Text.{Text}

-- o is what a taker says of a text within s: a number, at most hi, and what is left, no earlier than lo; or none
abbrev pub Taken : Option (ℕ × Text) → (s : Text) → (lo hi : ℕ) → Option (ℕ × ℕ) → Type 0
Taken o s lo hi (Some (c, i)) = (o ≡ Some (c, drop i s)) × (lo ≤ i) × (i ≤ length s) × (c ≤ hi)
Taken o s lo hi None = o ≡ None

-- o is what a byte stands for: a number, at most hi, or none
abbrev pub Means : Option ℕ → (hi : ℕ) → Option ℕ → Type 0
Means o hi (Some n) = (o ≡ Some n) × (n ≤ hi)
Means o hi None = o ≡ None
