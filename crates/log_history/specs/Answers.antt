-- What is known of the checkpoint that the marker names once it is read, and what is answered at the latest version.
use Rattle.std.specs.Prelude.{◌≡◌, List, ℕ, ◌<◌}
use Rattle.std.specs.Prelude.{Some}
use Rattle.rules.specs.Bytes.{Bytes}
use Rattle.rules.specs.Bundle.{File}
use Rattle.rules.specs.Live.{most_live}
use Rattle.rules.specs.Refusals.{accepted}
use Rattle.rules.specs.History.{of_checkpoint, read_file, read_zero}
use Rattle.rules.specs.History.{State as RuleState}
use Rattle.rules.specs.Starts.{log_of, way_to, nothing_live}
use Rattle.rules.specs.Marker.{latest}
use Rattle.rules.specs.Reading.{state_by}
use Rattle.file_bundle.specs.Files.{files_in, file_in}
use Rattle.log_starts.specs.Marks.{named_by}
use Rattle.log_replay.specs.Views.{state_of, Carries}
use Rattle.log_replay.specs.Answers.{Left, OutcomeIs}
use Rattle.log_replay.specs.declared.State.{State}
use Rattle.log_history.specs.declared.latest.Latest.{Latest}
use Rattle.std.specs.Prelude.{Option, None}
use Rattle.file_names.specs.declared.Version.{Version}

-- the marker names version n, the checkpoint there is that of entry k, and its lines were read to the end: they give st, carried with
-- the table t, and say the metadata
pub record Begun (src : Bytes) (k n : ℕ) (st : State) (t : List ℕ) : Type 0 where
  pub zero : File
  pub z : RuleState
  pub first : (log_of (files_in src)).version_file 0 ≡ Some zero
  pub says : read_zero zero ≡ accepted z
  pub marker : named_by (log_of (files_in src)) ≡ Some n
  pub checkpoint : (log_of (files_in src)).checkpoint_file n ≡ Some (file_in src k)
  pub gives : read_file most_live of_checkpoint (file_in src k) nothing_live ≡ accepted (state_of src st t)
  pub carries : Carries src most_live st t
  pub told : 0 < st.table.size

-- of the checkpoint that the marker names: where it is not read, nothing is said but that the table changed in its first rows alone
abbrev pub MarkedIs : Bytes → List ℕ → List ℕ → Option (ℕ × Version × State) → Type 0
MarkedIs src t t' (Some (k, n, st)) = Begun src k n.0 st t' × Left most_live t t'
MarkedIs src t t' None = Left most_live t t'

-- the latest version by the rules, and what the rules give there
pub record LatestIs (src : Bytes) (t t' : List ℕ) (r : Latest) : Type 0 where
  pub version : r.version.0 ≡ latest (log_of (files_in src))
  pub state : OutcomeIs src most_live (state_by (log_of (files_in src)) (way_to (log_of (files_in src)) (latest (log_of (files_in src))))) t t' r.reached
