-- From a start up to a version, one version file after the other, so that a caller can read them in that order.
use Rattle.std.specs.Prelude.{◌≡◌, Bool, true, not, ◌&&◌, ℕ, zero, suc, ◌+◌, ◌<◌, length}
use Rattle.std.specs.Prelude.{Option, None, Some}
use Rattle.rules.specs.Bytes.{Bytes, is_some}
use Rattle.rules.specs.Bundle.{File}
use Rattle.rules.specs.Starts.{Log, log_of, start_at, Way, from_zero, from_checkpoint, and_then}
use Rattle.file_bundle.specs.Files.{files_in, file_in}
use Rattle.log_starts.specs.declared.Start.{Start}
use Rattle.log_starts.specs.declared.Start.TheVariants.{Zero, Checkpoint}

-- from w₀ at version s, the version files up to v make the way w
pub data Leads (log : Log) (w₀ : Way) (s : ℕ) : ℕ → Way → Type 0 where
  here : Leads log w₀ s s w₀
  next : {v : ℕ} {w : Way} {g : File} → Leads log w₀ s v w → log.version_file (suc v) ≡ Some g → Leads log w₀ s (suc v) (and_then w g)

-- o is the way to v by the rules, and it begins at this start
abbrev pub StartIs : (src : Bytes) (v : ℕ) (o : Option Way) → Option Start → Type 0
StartIs src v o (Some Zero) = (w : Way) × (o ≡ Some w) × Leads (log_of (files_in src)) from_zero 0 v w
StartIs src v o (Some (Checkpoint k s)) =
    (k < length (files_in src))
    × (start_at (log_of (files_in src)) s.0 ≡ Some (file_in src k))
    × (w : Way)
    × (o ≡ Some w)
    × Leads (log_of (files_in src)) (from_checkpoint (file_in src k)) s.0 v w
StartIs src v o None = o ≡ None

-- the way to w, if there is one, comes to it by its version file, and no start is there
unfoldable pub by_its_file : Log → ℕ → Bool
by_its_file log w = not (is_some (start_at log w)) && is_some (log.version_file w)

-- so it is of each of the d versions above n
unfoldable pub passing : Log → (n d : ℕ) → Bool
passing log n zero = true
passing log n (suc d) = by_its_file log (suc (n + d)) && passing log n d
