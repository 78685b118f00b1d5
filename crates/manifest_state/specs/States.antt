-- A manifest and a state manifest as they stand in a text.
use Rattle.std.specs.Prelude.{◌≡◌, List, [], ℕ, ◌≤◌, length}
use Rattle.std.specs.Prelude.{Option, None, Some}
use Rattle.rules.specs.Bytes.{◌>>=◌}
use Rattle.rules.specs.Manifests.{Manifest, in_manifests, columns_of, manifests_in}
use Rattle.rules.specs.Json.Text.{Text}
use Rattle.rules.specs.Json.Values.{array_of}
use Rattle.rules.specs.Json.Fields.{if_there}
use Rattle.field_objects.specs.declared.notes.Slot.{Slot}
use Rattle.field_scalars.specs.Optionals.{optional_of, between}
use Rattle.manifest_state.specs.Tables.{Table, Columns as ColumnsStand}

-- ---- the columns of a manifest, from v to e

abbrev pub columns_stated : Text → Slot → Option (Option Table)
columns_stated t x = optional_of t x >>= if_there columns_of

pub record Placed (t : Text) (v e at : ℕ) (columns : Table) : Type 0 where
  pub ordered : v ≤ e
  pub within : e ≤ length t
  pub stand : ColumnsStand (between t v e) at columns

abbrev pub StatedIs : Option (Option Table) → Text → Option (Option (ℕ × ℕ × ℕ)) → Type 0
StatedIs o t (Some (Some (v, e, at))) = (columns : Table) × (o ≡ Some (Some columns)) × Placed t v e at columns
StatedIs o t (Some None) = o ≡ Some None
StatedIs o t None = o ≡ None

-- ---- a manifest by its columns

abbrev pub ManifestIs : Option Manifest → Text → Option (Option (ℕ × ℕ × ℕ)) → Type 0
ManifestIs o t (Some (Some (v, e, at))) = (m : Manifest) × (o ≡ Some m) × Placed t v e at m.bounds
ManifestIs o t (Some None) = (m : Manifest) × (o ≡ Some m) × (m.bounds ≡ [])
ManifestIs o t None = o ≡ None

-- ---- the manifests of a state manifest, whose array stands from v to e

abbrev pub manifests_of : Text → Option (List Manifest)
manifests_of v = array_of in_manifests v >>= manifests_in

abbrev pub ArrayIs : Option (List Manifest) → Text → Option (ℕ × ℕ) → Type 0
ArrayIs o s (Some (v, e)) = (o ≡ manifests_of (between s v e)) × (v ≤ e) × (e ≤ length s)
ArrayIs o s None = o ≡ None
