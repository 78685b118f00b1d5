-- The way from a start, and from version 0 to a version, by what was read of it.
use mathlib.Core.Path.{◌≡◌, refl, sym, ap, ◌∙◌, subst}
use Rattle.std.specs.Prelude.{Option, None, Some}
use mathlib.Core.List.{List}
use Prim.Native.Nat.{ℕ, ◌<◌}
use native.Mathlib.Omega.{arith}
use lib.ListN.{length}
use lib.Dec.{ltb}
use borrow.Author.Tests.{ltb-true, ltb-false}
use Rattle.rules.specs.Bytes.{Bytes}
use Rattle.rules.specs.Bundle.{File, IsBundle}
use Rattle.rules.specs.Live.{most_live}
use Rattle.rules.specs.Refusals.{Answer, refused, ◌>>=◌}
use Rattle.rules.specs.Refusals.{Refusal as RuleRefusal}
use Rattle.rules.specs.History.{of_checkpoint, read_file, read_zero}
use Rattle.rules.specs.History.{State as RuleState}
use Rattle.rules.specs.Starts.{Log, log_of, Way, from_zero, from_checkpoint, way_to, follow}
use Rattle.rules.specs.Reading.{state_within, state_by}
use Rattle.rules.proofs.Tests.{by, true-not-false}
use Rattle.file_names.specs.declared.Version.{Version}
use Rattle.file_bundle.specs.Files.{files_in, file_in}
use Rattle.file_bundle.proofs.Opening.{bundle-long}
use Rattle.row_live.specs.Live.{places}
use Rattle.refusals.specs.Numbered.{numbered}
use Rattle.refusals.specs.declared.Refusal.{Refusal}
use Rattle.refusals.specs.declared.Refusal.TheVariants.{NoVersionZero, NotKept}
use Rattle.log_starts.specs.Ways.{StartIs}
use Rattle.std.specs.Prelude.{Result, Ok, Err}
use Rattle.log_starts.specs.declared.Start.{Start}
use Rattle.log_starts.specs.declared.Start.TheVariants.{Zero, Checkpoint}
use Rattle.log_replay.specs.Views.{state_of}
use Rattle.log_replay.specs.Answers.{Left, OutcomeIs, ZeroIs, Renewed}
use Rattle.log_replay.specs.declared.State.{State}
use Rattle.log_history.specs.Ends.{Reaches, GoesOn, OnwardIs, FollowIs, ReadIs}
use Rattle.log_history.proofs.Leading.{leads-refused}
use Rattle.log_history.proofs.Walking.{left-same, left_join, carried-join}

-- positions in a well-formed bundle fit into the head of a row
pub bundle-places : (src : Bytes) → IsBundle src → length src < places
bundle-places src g =
    by (ltb 1048576 (length src))
    (λ l. absurd (true-not-false g (bundle-long src (ltb-true 1048576 (length src) l))))
    (λ l. omega (arith, ltb-false 1048576 (length src) l))

some_same : {A : Type 0} {a b : A} → ◌≡◌ {A = Option A} (Some a) (Some b) → a ≡ b
some_same p = cc

-- ---- from a start

pub reaches-checkpoint : (src : Bytes) (v : ℕ) (start : Start) {k : ℕ} {s : Version} → start ≡ Checkpoint k s → Reaches src v start
    → (k < length (files_in src)) × GoesOn src s.0 v
reaches-checkpoint src v start {k} e r =
    let h = subst (λ (x : Start). StartIs src v (Some r.0) (Some x)) e r.1 in
    (h.0, (from_checkpoint (file_in src k), h.2, h.4))

-- what was read from a table that had been changed before
pub outcome-join : (src : Bytes) (limit : ℕ) (o : Answer RuleState) (t t₁ t' : List ℕ) (r : Result State Refusal)
    → Left limit t t₁ → OutcomeIs src limit o t₁ t' r → OutcomeIs src limit o t t' r
outcome-join src limit o t t₁ t' (Ok m) a d = (d.0, carried-join a d.1)
outcome-join src limit o t t₁ t' (Err x) a d = (d.0, left_join a d.1)

module _ (src : Bytes) (limit v : ℕ) (z : State) (start : Start) (t t' : List ℕ) where
  pub follow-zero : (r : Result State Refusal) → start ≡ Zero → OnwardIs src limit 0 v z t t' r → FollowIs src limit v z start t t' r
  unfolding follow
  follow-zero r e on w h =
      let p = subst (λ (x : Start). StartIs src v (Some w) (Some x)) e h in
      subst
      (λ (x : Way). OutcomeIs src limit (follow limit (state_of src z t) x) t t' r)
      (sym (some_same p.1))
      (on (state_of src z t) from_zero p.0 p.2 refl)

  module _ {k : ℕ} {s : Version} (e : start ≡ Checkpoint k s) (empty : State) (renewed : Renewed z empty) where
    begins : follow limit (state_of src z t) (from_checkpoint (file_in src k)) ≡ read_file limit of_checkpoint (file_in src k) (state_of src empty t)
    unfolding follow
    begins = ap (read_file limit of_checkpoint (file_in src k)) (sym (renewed.0 src t))

    pub follow-checkpoint : {st : State} (t₁ : List ℕ) (r : Result State Refusal)
        → OutcomeIs src limit (read_file limit of_checkpoint (file_in src k) (state_of src empty t)) t t₁ (Ok st)
        → OnwardIs src limit s.0 v st t₁ t' r → FollowIs src limit v z start t t' r
    follow-checkpoint t₁ r d on w h =
        let p = subst (λ (x : Start). StartIs src v (Some w) (Some x)) e h in
        let b = on (state_of src z t) (from_checkpoint (file_in src k)) p.2 p.4 (begins ∙ d.0) in
        subst
        (λ (y : Way). OutcomeIs src limit (follow limit (state_of src z t) y) t t' r)
        (sym (some_same p.3))
        (outcome-join src limit (follow limit (state_of src z t) p.2) t t₁ t' r d.1.left b)

    faulty : {r : RuleRefusal} → read_file limit of_checkpoint (file_in src k) (state_of src empty t) ≡ refused r
        → (w : Way) → StartIs src v (Some w) (Some start) → follow limit (state_of src z t) w ≡ refused r
    faulty q w h =
        let p = subst (λ (x : Start). StartIs src v (Some w) (Some x)) e h in
        ap (follow limit (state_of src z t)) (some_same p.3) ∙ leads-refused limit (state_of src z t) p.4 (begins ∙ q)

    pub follow-refused : (y : Refusal) → OutcomeIs src limit (read_file limit of_checkpoint (file_in src k) (state_of src empty t)) t t' (Err y)
        → FollowIs src limit v z start t t' (Err y)
    follow-refused y d w h = (faulty d.0 w h, d.1)

-- ---- from version 0

module _ (src : Bytes) (f : File) (v : ℕ) (start : Start) (t : List ℕ) where
  pub read_none : (x : Refusal) → ZeroIs src (read_zero f) (Err x) → ReadIs src f v start t t (Err x)
  read_none x d w h = (ap (λ (a : Answer RuleState). a >>= (λ z. follow most_live z w)) d, left-same)

  pub read-onward : (z : State) → ZeroIs src (read_zero f) (Ok z) → (t' : List ℕ) (r : Result State Refusal) → FollowIs src most_live v z start t t' r
      → ReadIs src f v start t t' r
  read-onward z d t' r o w h =
      let zeroed : (read_zero f >>= (λ z. follow most_live z w)) ≡ follow most_live (state_of src z t) w =
      ap (λ (a : Answer RuleState). a >>= (λ z. follow most_live z w)) (d.0 t) in
      subst (λ (a : Answer RuleState). OutcomeIs src most_live a t t' r) (sym zeroed) (o w h)

-- ---- at a version

-- the start that is answered reaches the version
pub reaches : (src : Bytes) (v : ℕ) (o : Option Way) (start : Start) → StartIs src v o (Some start)
    → (w : Way) × (o ≡ Some w) × StartIs src v (Some w) (Some start)
reaches src v o Zero h = (h.0, h.1, (h.0, refl, h.2))
reaches src v o (Checkpoint k s) h = (h.2, h.3, (h.0, h.1, h.2, refl, h.4))

module _ (src : Bytes) (v : ℕ) (t : List ℕ) where
  abbrev log : Log
  log = log_of (files_in src)

  pub state-unbegun : log.version_file 0 ≡ None → OutcomeIs src most_live (state_by log (way_to log v)) t t (Err NoVersionZero)
  unfolding state_within numbered
  state-unbegun e = (rw (state_within, e), left-same)

  module _ {f : File} (e : log.version_file 0 ≡ Some f) where
    pub state-unreached : way_to log v ≡ None → OutcomeIs src most_live (state_by log (way_to log v)) t t (Err NotKept)
    unfolding state_within numbered
    state-unreached p = (rw (state_within, e, p), left-same)

    pub state-read : (start : Start) (t' : List ℕ) (r : Result State Refusal) → ((w : Way) × (way_to log v ≡ Some w) × StartIs src v (Some w) (Some start))
        → ReadIs src f v start t t' r
        → OutcomeIs src most_live (state_by log (way_to log v)) t t' r
    unfolding state_within
    state-read start t' r p d =
        let q : state_by log (way_to log v) ≡ (read_zero f >>= (λ z. follow most_live z p.0)) = rw (state_within, e, p.1) in
        subst (λ (o : Answer RuleState). OutcomeIs src most_live o t t' r) (sym q) (d p.0 p.2)
