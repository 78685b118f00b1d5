-- What the rules say of fields, by the slots of a scan.
use mathlib.Core.Path.{◌≡◌, ap}
use Rattle.std.specs.Prelude.{Option}
use mathlib.Core.List.{List, []}
use Prim.Native.Nat.{ℕ, ◌<◌}
use Prim.Native.String.{String}
use lib.ListN.{length, get_or}
use Rattle.rules.specs.Bytes.{Bytes, ascii, ◌>>=◌}
use Rattle.rules.specs.Actions.{path_at, protocol_number_at}
use Rattle.rules.specs.Json.Text.{Text}
use Rattle.rules.specs.Json.Numbers.{whole}
use Rattle.rules.specs.Json.Values.{Member}
use Rattle.rules.specs.Json.Fields.{under, once, optional, string_of, string_at, whole_at, bool_of, if_there}
use Rattle.field_objects.specs.Slots.{missing, Holds, Each}
use Rattle.field_objects.specs.declared.notes.Slot.{Slot}
use Rattle.field_objects.proofs.Slots.{slot-once, slot-optional}
use Rattle.field_scalars.specs.Inside.{Inside, whole_in, bool_in, string_in, optional_whole_in}
use Rattle.field_scalars.specs.Texts.{path_of}
use Rattle.field_scalars.specs.Versions.{version_of}
use Rattle.field_scalars.proofs.Single.{times-inside}

module _ (s : Text) (x : Slot) (name : String) (ms : List Member) (h : Holds s x (under (ascii name) ms)) where
  pub field-whole : whole_at name ms ≡ whole_in s x
  unfolding whole_at
  field-whole = ap (λ (o : Option Text). o >>= whole) (slot-once s name ms x.seen x.start x.end h)

  pub field-bool : (once name ms >>= bool_of) ≡ bool_in s x
  field-bool = ap (λ (o : Option Text). o >>= bool_of) (slot-once s name ms x.seen x.start x.end h)

  pub field-string : string_at name ms ≡ string_in s x
  unfolding string_at
  field-string = ap (λ (o : Option Text). o >>= string_of) (slot-once s name ms x.seen x.start x.end h)

  pub field-optional : (optional name ms >>= if_there whole) ≡ optional_whole_in s x
  field-optional = ap (λ (o : Option (Option Text)). o >>= if_there whole) (slot-optional s name ms x.seen x.start x.end h)

pub field-version : (s : Text) (x : Slot) (name : String) (ms : List Member) → Holds s x (under (ascii name) ms)
    → protocol_number_at name ms ≡ version_of (whole_in s x)
unfolding protocol_number_at
field-version s x name ms h = ap version_of (field-whole s x name ms h)

pub field-path : (s : Text) (x : Slot) (ms : List Member) → Holds s x (under (ascii "path") ms) → path_at ms ≡ path_of (string_in s x)
unfolding path_at
field-path s x ms h = ap path_of (field-string s x "path" ms h)

-- the slot of name k stands within the text
pub each-inside : (s : Text) (names : List Bytes) (ms : List Member) (slots : List Slot) (k : ℕ) → k < length names → Each s names ms slots
    → Inside s (get_or slots k missing)
each-inside s names ms slots k b each =
    let x = get_or slots k missing in
    times-inside s x.seen x.start x.end (under (get_or names k []) ms) (each k b)
