-- The marker: its format, and the version that it names.
use Rattle.std.specs.Prelude.{Bool, false, ℕ}
use Rattle.std.specs.Prelude.{Option, None, Some}
use Rattle.rules.specs.Bytes.{Bytes, ◌>>=◌}
use Rattle.rules.specs.Json.Text.{Text}
use Rattle.rules.specs.Json.Fields.{if_there, string_of}
use Rattle.rules.specs.Starts.{Log}
use Rattle.rules.specs.Marker.{is_json, marker_version}
use Rattle.field_scalars.specs.Optionals.{optional_of}
use Rattle.field_objects.specs.declared.notes.Slot.{Slot}
use Rattle.file_names.specs.declared.Version.{Version}

-- ---- its format

abbrev pub format_in : Text → Slot → Option (Option Bytes)
format_in s x = optional_of s x >>= if_there string_of

-- missing, null or "json"
abbrev pub fits : Option (Option Bytes) → Bool
fits None = false
fits (Some f) = is_json f

-- ---- the version that it names

-- what its text says, whatever stands there
unfoldable pub named_by : Log → Option ℕ
named_by log = do
  m ← log.marker_file
  marker_version m.body

unfoldable pub mark_is : Option ℕ → Option Version
mark_is None = None
mark_is (Some n) = Some (record { 0 = n })
