-- The bounds of a column as they stand in the text of its value: each by the position behind its opening quote.
use Rattle.std.specs.Prelude.{◌≡◌, false, ℕ, drop}
use Rattle.std.specs.Prelude.{Option, None, Some}
use Rattle.rules.specs.Bytes.{Bytes, ◌>>=◌}
use Rattle.rules.specs.Query.{Condition}
use Rattle.rules.specs.Manifests.{Bounds, both_there}
use Rattle.rules.specs.Json.Text.{Text}
use Rattle.rules.specs.Json.Fields.{if_there, string_of}
use Rattle.field_objects.specs.declared.notes.Slot.{Slot}
use Rattle.json_strings.specs.Decoded.{decoded, WellSpelled}
use Rattle.field_scalars.specs.Optionals.{optional_of}

-- a field that may be missing or null
abbrev pub optional_string_in : Text → Slot → Option (Option Bytes)
optional_string_in t x = optional_of t x >>= if_there string_of

abbrev pub BoundIs : Option (Option Bytes) → Text → Option (Option ℕ) → Type 0
BoundIs o t (Some (Some p)) = WellSpelled t p × (o ≡ Some (Some (decoded (drop p t))))
BoundIs o t (Some None) = o ≡ Some None
BoundIs o t None = o ≡ None

abbrev pub from_to : (t : Text) → (lo hi : ℕ) → Bounds
from_to t lo hi = record { min = Some (decoded (drop lo t)); max = Some (decoded (drop hi t)) }

pub record Both (o : Option Bounds) (t : Text) (lo hi : ℕ) : Type 0 where
  pub least : WellSpelled t lo
  pub greatest : WellSpelled t hi
  pub says : o ≡ Some (from_to t lo hi)

-- a bound is missing, so that no condition drops a manifest for them
pub record OneMissing (o : Option Bounds) : Type 0 where
  pub bounds : Bounds
  pub says : o ≡ Some bounds
  pub drops-none : (c : Condition) → both_there c bounds.min bounds.max ≡ false

abbrev pub RangeIs : Option Bounds → Text → Option (Option (ℕ × ℕ)) → Type 0
RangeIs o t (Some (Some (lo, hi))) = Both o t lo hi
RangeIs o t (Some None) = OneMissing o
RangeIs o t None = o ≡ None
