-- A member that was read, by positions.
use Rattle.std.specs.Prelude.{◌≡◌, ℕ, ◌+◌, ◌-◌, ◌≤◌, length, take, drop}
use Rattle.std.specs.Prelude.{Option, None, Some}
use Rattle.rules.specs.Json.Text.{Text, byte}
use Rattle.rules.specs.Json.Values.{Member as Pair}
use Rattle.field_names.specs.Spelled.{name_in, Named}
use Rattle.field_names.specs.declared.keys.Spell.{Spell}
use Rattle.field_objects.specs.Places.{value_in}

-- o is what the rules say of the member at `at`: its name stands behind the quote there, its value from v to e
pub record Stands (o : Option (Pair × Text)) (s : Text) (at : ℕ) (n : Spell) (v e : ℕ) : Type 0 where
  pub quote : byte 0x22 (drop at s) ≡ Some (drop n.at s)
  pub first : at + 1 ≤ n.at
  pub named : Named s n
  pub read : o ≡ Some ((name_in s n, take (e - v) (drop v s)), drop e s)
  pub value : value_in (drop at s) ≡ Some (drop v s)
  pub from : at + 1 ≤ v
  pub ordered : v ≤ e
  pub within : e ≤ length s

abbrev pub MetIs : Option (Pair × Text) → Text → (at : ℕ) → Option (Spell × ℕ × ℕ) → Type 0
MetIs o s at (Some (n, v, e)) = Stands o s at n v e
MetIs o s at None = o ≡ None

-- the same where a member was found; nothing is said where none was
abbrev pub FoundIs : Option (Pair × Text) → Text → (at : ℕ) → Option (Spell × ℕ × ℕ) → Type 0
FoundIs o s at (Some (n, v, e)) = Stands o s at n v e
FoundIs o s at None = Unit {0}
