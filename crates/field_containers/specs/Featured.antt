-- The features of a protocol as they stand: an array of strings that may be missing or null, and whether all are known.
use Rattle.std.specs.Prelude.{◌≡◌, Bool, true, false, List, [], ℕ, zero, suc, ◌≤◌, length}
use Rattle.std.specs.Prelude.{Option, None, Some}
use Rattle.rules.specs.Actions.{in_field, or_empty}
use Rattle.rules.specs.Bytes.{Bytes, ◌>>=◌, all_among}
use Rattle.rules.specs.Gate.{reader_names, writer_names}
use Rattle.rules.specs.Json.Text.{Text}
use Rattle.rules.specs.Json.Fields.{if_there, strings_of}
use Rattle.field_objects.specs.declared.notes.Slot.{Slot}
use Rattle.field_scalars.specs.Optionals.{optional_of}
use Rattle.field_containers.specs.Strung.{Listed as Lists}

-- the features that writers know, or readers
abbrev pub known_names : (writer : Bool) → List Bytes
known_names true = writer_names
known_names false = reader_names

-- no features are stated; or they are listed behind the bracket before `at`
abbrev pub FeaturesAt : Text → (at : ℕ) → List Bytes → Type 0
FeaturesAt s zero xs = xs ≡ []
FeaturesAt s (suc n) xs = (suc n ≤ length s) × Lists s (suc n) xs

-- features that may be missing or null
abbrev pub features_of : Option Text → Option (List Bytes)
features_of v = if_there (strings_of in_field) v >>= (λ xs. Some (or_empty xs))

abbrev pub features_in : Text → Slot → Option (List Bytes)
features_in s x = optional_of s x >>= features_of

pub record Known (o : Option (List Bytes)) (s : Text) (writer : Bool) (at : ℕ) (known : Bool) : Type 0 where
  pub xs : List Bytes
  pub says : o ≡ Some xs
  pub listed : FeaturesAt s at xs
  pub all : known ≡ all_among (known_names writer) xs

abbrev pub FeaturesIs : Option (List Bytes) → Text → (writer : Bool) → Option (ℕ × Bool) → Type 0
FeaturesIs o s writer (Some (at, known)) = Known o s writer at known
FeaturesIs o s writer None = o ≡ None
