-- The marker, and the latest version.
use Rattle.std.specs.Prelude.{Bool, true, ℕ, zero, suc}
use Rattle.std.specs.Prelude.{Option, None, Some}
use Rattle.rules.specs.Bytes.{Bytes, ascii, ◌>>=◌, guard, same}
use Rattle.rules.specs.Numbers.{most}
use Rattle.rules.specs.Bundle.{File}
use Rattle.rules.specs.Json.Text.{Text}
use Rattle.rules.specs.Json.Values.{object_of}
use Rattle.rules.specs.Json.Fields.{optional, absent, string_of, if_there, whole_at}
use Rattle.rules.specs.Actions.{in_line}
use Rattle.rules.specs.Starts.{Log, start_at}

-- missing, null or "json"
unfoldable pub is_json : Option Bytes → Bool
is_json None = true
is_json (Some f) = same f (ascii "json")

-- one JSON object with `version` (whole number), no `parts`, `format` missing, null or "json", each at most once
unfoldable pub marker_version : Text → Option ℕ
marker_version s = do
  ms ← object_of in_line s
  n ← whole_at "version" ms
  _ ← guard (absent "parts" ms)
  v ← optional "format" ms
  f ← if_there string_of v
  _ ← guard (is_json f)
  Some n

-- the version that the marker names, if the marker is usable: that checkpoint is a start
unfoldable pub marked : Log → Option ℕ
marked log = do
  m ← log.marker_file
  c ← marker_version m.body
  _ ← start_at log c
  Some c

-- ---- the latest version

unfoldable pub climb_by : Option File → ℕ → (Unit {0} → ℕ) → ℕ
climb_by None s further = s
climb_by (Some f) s further = further tt

-- up from s as far as there is no gap, by at most `bound` version files
unfoldable pub climb : (bound : ℕ) → Log → ℕ → ℕ
climb zero log s = s
climb (suc n) log s = climb_by (log.version_file (suc s)) s (λ _. climb n log (suc s))

unfoldable pub or_zero : Option ℕ → ℕ
or_zero None = zero
or_zero (Some c) = c

-- the highest version reached from the marker's checkpoint, or from version 0; no version is above 2^63 - 1, so the bound is not met
unfoldable pub latest : Log → ℕ
latest log = climb most log (or_zero (marked log))
