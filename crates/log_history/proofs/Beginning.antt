-- The checkpoint that the marker names, once its lines are read: the latest version is above it, and the way there may go on from it.
use mathlib.Core.Path.{◌≡◌, sym, ap, ◌∙◌, subst}
use mathlib.Core.List.{List}
use Rattle.std.specs.Prelude.{Some}
use Prim.Native.Nat.{ℕ, ◌<◌}
use Rattle.rules.specs.Bytes.{Bytes}
use Rattle.rules.specs.Numbers.{most}
use Rattle.rules.specs.Bundle.{File}
use Rattle.rules.specs.Live.{most_live}
use Rattle.rules.specs.Refusals.{Answer}
use Rattle.rules.specs.History.{of_checkpoint, read_file, read_zero}
use Rattle.rules.specs.History.{State as RuleState}
use Rattle.rules.specs.Starts.{log_of, start_at, from_checkpoint, way_to, follow}
use Rattle.rules.specs.Marker.{climb, latest}
use Rattle.rules.specs.Reading.{state_within, state_by}
use Rattle.file_bundle.specs.Files.{files_in, file_in}
use Rattle.log_starts.specs.Marks.{named_by}
use Rattle.log_starts.proofs.Starting.{start-good, marked-at, latest-at, way-start}
use Rattle.log_starts.proofs.Passing.{Through}
use Rattle.log_replay.specs.Views.{state_of}
use Rattle.log_replay.specs.Answers.{Left, OutcomeIs, ZeroIs, Renewed}
use Rattle.log_replay.specs.declared.State.{State}
use Rattle.std.specs.Prelude.{Result, Ok}
use Rattle.refusals.specs.declared.Refusal.{Refusal}
use Rattle.log_history.specs.Ends.{GoesOn, OnwardIs}
use Rattle.log_history.specs.Answers.{Begun, LatestIs}
use Rattle.log_history.specs.declared.latest.Latest.{Latest}
use Rattle.rules.proofs.Readable.{read_file-readable}
use Rattle.rules.proofs.Tabled.{read_file-says, is_start-both}
use Rattle.log_replay.proofs.Tabled.{carries-id}
use Rattle.log_history.proofs.Reaching.{outcome-join}

pub begun : {src : Bytes} {zero : File} {z : State} {k n : ℕ} (t t₁ : List ℕ) (empty st : State)
    → (log_of (files_in src)).version_file 0 ≡ Some zero → ZeroIs src (read_zero zero) (Ok z)
    → named_by (log_of (files_in src)) ≡ Some n → (log_of (files_in src)).checkpoint_file n ≡ Some (file_in src k)
    → Renewed z empty → OutcomeIs src most_live (read_file most_live of_checkpoint (file_in src k) (state_of src empty t)) t t₁ (Ok st) → 0 < st.table.size
    → Begun src k n st t₁
begun {src} {zero} {z} {k} t t₁ empty st first says marker checkpoint renewed d told = record {
  zero = zero;
  z = state_of src z t;
  first = first;
  says = says.0 t;
  marker = marker;
  checkpoint = checkpoint;
  gives = ap (read_file most_live of_checkpoint (file_in src k)) (sym (renewed.0 src t)) ∙ d.0;
  carries = d.1.carries;
  told = told;
}

module _ {src : Bytes} {k n : ℕ} {st : State} {t : List ℕ} (b : Begun src k n st t) where
  -- it is a start
  begun-start : start_at (log_of (files_in src)) n ≡ Some (file_in src k)
  begun-start =
      start-good (log_of (files_in src)) n (file_in src k) b.checkpoint
      (is_start-both (file_in src k).body (read_file-readable most_live of_checkpoint (file_in src k) _ _ b.gives)
      (read_file-says most_live (file_in src k) (state_of src st t) b.gives (carries-id b.carries b.told)))

  pub begun-latest : climb most (log_of (files_in src)) n ≡ latest (log_of (files_in src))
  begun-latest = latest-at (log_of (files_in src)) (marked-at (log_of (files_in src)) n b.marker begun-start)

  pub begun-goes-on : (v : ℕ) → Through (log_of (files_in src)) n v → GoesOn src n v
  begun-goes-on v p =
      let q = p (from_checkpoint (file_in src k)) (way-start (log_of (files_in src)) n begun-start) in
      (from_checkpoint (file_in src k), q.0, q.2)

  -- where the way to v goes through n, it goes on from here
  pub begun-onward : (v : ℕ) (t' : List ℕ) (x : Result State Refusal) → Through (log_of (files_in src)) n v → OnwardIs src most_live n v st t t' x
      → OutcomeIs src most_live (state_by (log_of (files_in src)) (way_to (log_of (files_in src)) v)) t t' x
  unfolding state_within follow
  begun-onward v t' x p on =
      let q = p (from_checkpoint (file_in src k)) (way-start (log_of (files_in src)) n begun-start) in
      let e : state_by (log_of (files_in src)) (way_to (log_of (files_in src)) v) ≡ follow most_live b.z q.0 = rw (state_within, b.first, q.1, b.says) in
      subst (λ (o : Answer RuleState). OutcomeIs src most_live o t t' x) (sym e) (on b.z (from_checkpoint (file_in src k)) q.0 q.2 b.gives)

-- ---- what is answered

module _ (src : Bytes) (t t' : List ℕ) (r : Latest) where
  pub latest-is : r.version.0 ≡ latest (log_of (files_in src))
      → OutcomeIs src most_live (state_by (log_of (files_in src)) (way_to (log_of (files_in src)) r.version.0)) t t' r.reached → LatestIs src t t' r
  latest-is e d = record {
    version = e;
    state = subst (λ (v : ℕ). OutcomeIs src most_live (state_by (log_of (files_in src)) (way_to (log_of (files_in src)) v)) t t' r.reached) e d;
  }

  pub latest-join : (t₀ : List ℕ) → Left most_live t₀ t → LatestIs src t t' r → LatestIs src t₀ t' r
  latest-join t₀ l d = record { version = d.version; state = outcome-join src most_live _ t₀ t t' r.reached l d.state }
