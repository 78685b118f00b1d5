-- What is read at the end of a way: the rules' state, carried by the places of lines beside a table, or a refusal.
use Rattle.std.specs.Prelude.{◌≡◌, List, ℕ}
use Rattle.std.specs.Prelude.{Some}
use Rattle.rules.specs.Bytes.{Bytes}
use Rattle.rules.specs.Bundle.{File}
use Rattle.rules.specs.Live.{most_live}
use Rattle.rules.specs.Refusals.{accepted, ◌>>=◌}
use Rattle.rules.specs.History.{read_zero}
use Rattle.rules.specs.History.{State as RuleState}
use Rattle.rules.specs.Starts.{log_of, Way, follow}
use Rattle.file_bundle.specs.Files.{files_in}
use Rattle.log_starts.specs.Ways.{Leads, StartIs}
use Rattle.std.specs.Prelude.{Result}
use Rattle.refusals.specs.declared.Refusal.{Refusal}
use Rattle.log_starts.specs.declared.Start.{Start}
use Rattle.log_replay.specs.Views.{state_of}
use Rattle.log_replay.specs.Answers.{OutcomeIs}
use Rattle.log_replay.specs.declared.State.{State}

-- this start reaches v: a way to v begins there
abbrev pub Reaches : Bytes → (v : ℕ) → Start → Type 0
Reaches src v start = (w : Way) × StartIs src v (Some w) (Some start)

-- the version files behind s up to v are all there: a way to s, whichever it is, goes on by them
abbrev pub GoesOn : Bytes → (s v : ℕ) → Type 0
GoesOn src s v = (w₀ w : Way) × Leads (log_of (files_in src)) w₀ s v w

-- of the version files behind s up to v: whatever way came to s with the state st, this is how it ends at v
abbrev pub OnwardIs : Bytes → (limit s v : ℕ) → State → List ℕ → List ℕ → Result State Refusal → Type 0
OnwardIs src limit s v st t t' r =
    (z : RuleState) (w₀ w : Way) → Leads (log_of (files_in src)) w₀ s v w → follow limit z w₀ ≡ accepted (state_of src st t)
    → OutcomeIs src limit (follow limit z w) t t' r

-- of the way from a start to v, where version 0 gave z
abbrev pub FollowIs : Bytes → (limit v : ℕ) → State → Start → List ℕ → List ℕ → Result State Refusal → Type 0
FollowIs src limit v z start t t' r = (w : Way) → StartIs src v (Some w) (Some start) → OutcomeIs src limit (follow limit (state_of src z t) w) t t' r

-- of version file 0, which is f, and then the way from a start to v
abbrev pub ReadIs : Bytes → File → (v : ℕ) → Start → List ℕ → List ℕ → Result State Refusal → Type 0
ReadIs src f v start t t' r = (w : Way) → StartIs src v (Some w) (Some start) → OutcomeIs src most_live (read_zero f >>= (λ z. follow most_live z w)) t t' r
