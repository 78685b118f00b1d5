-- A field that may be missing or null, and where its value stands. No two answers are so (proofs/Alone.antt).
use Rattle.std.specs.Prelude.{◌≡◌, ℕ, ◌-◌, ◌≤◌, length, take, drop}
use Rattle.std.specs.Prelude.{Option, None, Some}
use Rattle.rules.specs.Json.Text.{Text}
use Rattle.field_objects.specs.Slots.{optional_in}
use Rattle.field_objects.specs.declared.notes.Slot.{Slot}

abbrev pub optional_of : Text → Slot → Option (Option Text)
optional_of t x = optional_in t x.seen x.start x.end

-- from v to e
abbrev pub between : Text → (v e : ℕ) → Text
between t v e = take (e - v) (drop v t)

-- o is the text from v to e, where the field stands once
pub record There (o : Option (Option Text)) (t : Text) (x : Slot) (v e : ℕ) : Type 0 where
  pub says : o ≡ Some (Some (between t v e))
  pub once : x.seen ≡ 1
  pub begins : v ≡ x.start
  pub ends : e ≡ x.end
  pub ordered : v ≤ e
  pub within : e ≤ length t

abbrev pub OptionalIs : Option (Option Text) → Text → Slot → Option (Option (ℕ × ℕ)) → Type 0
OptionalIs o t x (Some (Some (v, e))) = There o t x v e
OptionalIs o t x (Some None) = o ≡ Some None
OptionalIs o t x None = o ≡ None
