-- The value of the first member that has a name.
use Rattle.std.specs.Prelude.{◌≡◌, true, false, List, [], ◌∷◌, ℕ, suc, ◌-◌, ◌≤◌, length, take, drop}
use Rattle.std.specs.Prelude.{Option, None, Some}
use Rattle.rules.specs.Bytes.{Bytes, same}
use Rattle.rules.specs.Json.Text.{Text}
use Rattle.rules.specs.Json.Values.{Member, items, member, contents, value}

-- behind the brace before `at` stands an object
pub record Standing (depth : ℕ) (s : Text) (at : ℕ) : Type 0 where
  pub ms : List Member
  pub left : Text
  pub all : contents (value depth) (drop at s) ≡ Some (ms, left)

-- from the member at i on
pub record Onward (depth : ℕ) (s : Text) (i : ℕ) : Type 0 where
  pub ms : List Member
  pub left : Text
  pub all : items (member (value depth)) 0x7D (suc (length (drop i s))) (drop i s) ≡ Some (ms, left)

unfoldable pub lookup : (name : Bytes) → List Member → Option Text
lookup name [] = None
lookup name (m ∷ ms) = elim (same name m.0) [ true ↦ Some m.1 | false ↦ lookup name ms ]

abbrev pub FoundIs : Option Text → Text → Option (ℕ × ℕ) → Type 0
FoundIs o s (Some (v, e)) = (o ≡ Some (take (e - v) (drop v s))) × (v ≤ e) × (e ≤ length s)
FoundIs o s None = o ≡ None
