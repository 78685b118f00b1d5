-- What the rules say of fields that hold others, by the slots of a scan.
use mathlib.Core.Path.{◌≡◌, ap}
use Rattle.std.specs.Prelude.{Option}
use mathlib.Core.List.{List}
use Prim.Native.String.{String}
use Rattle.rules.specs.Bytes.{ascii, ◌>>=◌}
use Rattle.rules.specs.Actions.{partition_values_at, features_at}
use Rattle.rules.specs.Json.Text.{Text}
use Rattle.rules.specs.Json.Values.{Member}
use Rattle.rules.specs.Json.Fields.{under, once}
use Rattle.field_objects.specs.Slots.{Holds}
use Rattle.field_objects.specs.declared.notes.Slot.{Slot}
use Rattle.field_objects.proofs.Slots.{slot-once, slot-optional}
use Rattle.field_containers.specs.Nested.{values_of, values_in, columns_of, columns_in}
use Rattle.field_containers.specs.Featured.{features_of, features_in}

module _ (s : Text) (x : Slot) (name : String) (ms : List Member) (h : Holds s x (under (ascii name) ms)) where
  pub field-columns : (once name ms >>= columns_of) ≡ columns_in s x
  field-columns = ap (λ (o : Option Text). o >>= columns_of) (slot-once s name ms x.seen x.start x.end h)

  pub field-features : features_at name ms ≡ features_in s x
  unfolding features_at
  field-features = ap (λ (o : Option (Option Text)). o >>= features_of) (slot-optional s name ms x.seen x.start x.end h)

pub field-values : (s : Text) (x : Slot) (ms : List Member) → Holds s x (under (ascii "partitionValues") ms) → partition_values_at ms ≡ values_in s x
unfolding partition_values_at
field-values s x ms h = ap (λ (o : Option Text). o >>= values_of) (slot-once s "partitionValues" ms x.seen x.start x.end h)
