-- A field by its slot: its value, if there is one, stands within the text, and the text of the value is what the rules read.
use Rattle.std.specs.Prelude.{◌≡◌, Bool, [], ℕ, zero, suc, ◌-◌, ◌≤◌, length, take, drop}
use Rattle.std.specs.Prelude.{Option, Some}
use Rattle.rules.specs.Actions.{in_action}
use Rattle.rules.specs.Bytes.{Bytes, ◌>>=◌}
use Rattle.rules.specs.Json.Text.{Text}
use Rattle.rules.specs.Json.Numbers.{whole}
use Rattle.rules.specs.Json.Values.{value}
use Rattle.rules.specs.Json.Fields.{bool_of, if_there, string_of}
use Rattle.field_objects.specs.Slots.{text_in, optional_in}
use Rattle.field_objects.specs.declared.notes.Slot.{Slot}

abbrev pub InsideBy : Text → (seen v e : ℕ) → Type 0
InsideBy s zero v e = Unit {0}
InsideBy s (suc zero) v e = (v ≤ e) × (e ≤ length s)
InsideBy s (suc (suc n)) v e = Unit {0}

abbrev pub Inside : Text → Slot → Type 0
Inside s x = InsideBy s x.seen x.start x.end

-- a field of an action by its slot: its text, if there is one, stands within s and is a value
abbrev pub ProperBy : Text → (seen v e : ℕ) → Type 0
ProperBy s zero v e = Unit {0}
ProperBy s (suc zero) v e = (v ≤ e) × (e ≤ length s) × (value in_action (take (e - v) (drop v s)) ≡ Some [])
ProperBy s (suc (suc n)) v e = Unit {0}

abbrev pub Proper : Text → Slot → Type 0
Proper s x = ProperBy s x.seen x.start x.end

-- the text of a field that stands once
abbrev pub once_in : Text → Slot → Option Text
once_in s x = text_in s x.seen x.start x.end

abbrev pub whole_in : Text → Slot → Option ℕ
whole_in s x = once_in s x >>= whole

abbrev pub bool_in : Text → Slot → Option Bool
bool_in s x = once_in s x >>= bool_of

abbrev pub string_in : Text → Slot → Option Bytes
string_in s x = once_in s x >>= string_of

-- a field that may be missing or null
abbrev pub optional_whole_in : Text → Slot → Option (Option ℕ)
optional_whole_in s x = optional_in s x.seen x.start x.end >>= if_there whole
