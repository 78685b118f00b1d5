-- A text that is one object, by the slots of the fields that its kind names.
use Rattle.std.specs.Prelude.{◌≡◌, List}
use Rattle.std.specs.Prelude.{Option, None, Some}
use Rattle.rules.specs.Bytes.{Bytes}
use Rattle.rules.specs.Json.Text.{Text}
use Rattle.rules.specs.Json.Values.{Member}
use Rattle.field_objects.specs.Slots.{Each}
use Rattle.field_objects.specs.declared.notes.Slot.{Slot}
use Rattle.field_objects.specs.declared.notes.Fields.{Fields}

pub record Object (o : Option (List Member)) (t : Text) (names : List Bytes) (slots : List Slot) : Type 0 where
  pub ms : List Member
  pub all : o ≡ Some ms
  pub each : Each t names ms slots

-- o is what the rules say of the text
abbrev pub ObjectIs : Option (List Member) → Text → List Bytes → Option Fields → Type 0
ObjectIs o t names (Some f) = Object o t names f.slots
ObjectIs o t names None = o ≡ None
