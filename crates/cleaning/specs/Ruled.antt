-- What is ruled on the files before the marker's checkpoint, in the rules' terms.
use Rattle.std.specs.Prelude.{⊤, ◌≡◌, Bool, true, false, not, List, [], ℕ}
use Rattle.std.specs.Prelude.{Some}
use Rattle.rules.specs.Bytes.{Bytes}
use Rattle.rules.specs.Bundle.{bundle, IsBundle}
use Rattle.rules.specs.Names.{any_too_large}
use Rattle.rules.specs.Live.{most_live}
use Rattle.rules.specs.History.{State as RuleState}
use Rattle.rules.specs.Starts.{log_of, Way, follow}
use Rattle.rules.specs.Marker.{marked}
use Rattle.rules.specs.Gate.{gate, writable}
use Rattle.rules.specs.Agreement.{agree}
use Rattle.rules.specs.Cleaning.{named, compared, cleaned_at}
use Rattle.rules.specs.Refusals.{Answer, accepted, refused, ◌>>=◌, or_refuse, require, bundle_malformed}
use Rattle.rules.specs.Refusals.{version_too_large, no_version_zero, not_writable, checkpoint_disagrees}
use Rattle.file_bundle.specs.Files.{files_in, file_in}
use Rattle.refusals.specs.Numbered.{numbered}
use Rattle.log_starts.specs.Ways.{StartIs}
use Rattle.std.specs.Prelude.{Option, None, Result, Ok, Err}
use Rattle.refusals.specs.declared.Refusal.{Refusal}
use Rattle.file_names.specs.declared.Version.{Version}
use Rattle.log_starts.specs.declared.Start.{Start}
use Rattle.log_replay.specs.Views.{state_of}
use Rattle.log_replay.specs.Answers.{Left}
use Rattle.log_replay.specs.declared.State.{State}

-- ---- two states

-- the checkpoint's gate, whether it is writable, and then 13
unfoldable pub weighing : (mine theirs : RuleState) → Answer (Unit {0})
weighing mine theirs = do
  _ ← gate mine.in_force
  _ ← require not_writable (writable mine.in_force)
  require checkpoint_disagrees (agree mine theirs)

-- no refusal of what was read or compared is that of a room too short
abbrev pub ComparedIs : Answer (Unit {0}) → Result ⊤ Refusal → Type 0
ComparedIs o (Ok tt) = o ≡ accepted tt
ComparedIs o (Err x) = (o ≡ refused (numbered x)) × ((numbered x).number ≡ 1 → ⊥)

-- of the way from a start to c, where version 0 gave z, weighed against the state `mine`
abbrev pub WithIs : Bytes → State → Start → (c : ℕ) → State → (one two two' : List ℕ) → Result ⊤ Refusal → Type 0
WithIs src z start c mine one two two' r =
    ((w : Way) → StartIs src c (Some w) (Some start)
    → ComparedIs (follow most_live (state_of src z two) w >>= (λ theirs. weighing (state_of src mine one) theirs)) r)
    × Left most_live two two'

-- of version 0, the checkpoint, and the way from a start to c
abbrev pub CompareIs : Bytes → (entry₀ k : ℕ) → Start → (c : ℕ) → Result ⊤ Refusal → Type 0
CompareIs src entry₀ k start c r = (w : Way) → StartIs src c (Some w) (Some start) → ComparedIs (compared (file_in src entry₀) (file_in src k) w) r

-- ---- the ruling

-- what the rules say, whatever is asked of times
abbrev pub Asked : Type 0
Asked = (today retention : ℕ) → Answer (List ℕ)

-- of version 0, which is file `entry₀`, and a marker that names c
unfoldable pub ruled_at : Bytes → (entry₀ c : ℕ) → Asked
ruled_at src entry₀ c today retention = cleaned_at (Some c) (file_in src entry₀) today retention (files_in src)

-- of a bundle, once the rooms are long enough
unfoldable pub ruled : Bytes → Asked
ruled src today retention = do
  fs ← or_refuse bundle_malformed (bundle src)
  _ ← require version_too_large (not (any_too_large fs))
  zf ← or_refuse no_version_zero ((log_of fs).version_file 0)
  cleaned_at (marked (log_of fs)) zf today retention fs

abbrev pub RulingIs : Bytes → Asked → Result (Option Version) Refusal → Type 0
RulingIs src o (Ok (Some c)) = ((today retention : ℕ) → o today retention ≡ accepted (named c.0 today retention (files_in src))) × IsBundle src
RulingIs src o (Ok None) = (today retention : ℕ) → o today retention ≡ accepted []
RulingIs src o (Err x) = ((today retention : ℕ) → o today retention ≡ refused (numbered x)) × ((numbered x).number ≡ 1 → ⊥)
