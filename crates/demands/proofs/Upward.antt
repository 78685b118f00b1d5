-- Two logs with the same checkpoints, marker and version 0, and the same version files from c upward, answer alike from c upward,
-- where c is 0 or a checkpoint that is a start.
use mathlib.Core.Path.{◌≡◌, refl, ◌∙◌, ap, subst}
use Rattle.std.specs.Prelude.{Option, None, Some}
use mathlib.Core.List.{List}
use Prim.Native.Nat.{ℕ, zero, suc, ◌≤◌}
use native.Mathlib.Omega.{arith}
use native.Mathlib.Decide.{dec_le}
use Rattle.rules.specs.Bytes.{◌>>=◌}
use Rattle.rules.specs.Numbers.{most}
use Rattle.rules.specs.Bundle.{File}
use Rattle.rules.specs.Live.{most_live}
use Rattle.rules.specs.History.{State, of_version, read_file, read_zero}
use Rattle.rules.specs.Starts.{Log, start_at, Way, from_zero, from_checkpoint, and_then, onward_by, by_file, by_start, way_to, follow}
use Rattle.rules.specs.Marker.{marker_version, marked, climb_by, climb, or_zero, latest}
use Rattle.rules.specs.Query.{Condition}
use Rattle.rules.specs.Reading.{state_by, listing, listing_at, state_within, listing_within}
use Rattle.rules.specs.Refusals.{Answer, ◌>>=◌ as ◌onward◌, or_refuse, no_version_zero, not_kept}
use Rattle.rules.specs.Same.{SameState, SameListing, SameAnswer, both-accepted, both-refused}
use Rattle.rules.proofs.Tests.{apart}
use Rattle.rules.proofs.Choices.{bind-some}
use Rattle.rules.proofs.Answers.{same-bind}
use Rattle.rules.proofs.Moving.{read_file-same, begun-same, read_zero-same, listing-same}
use Rattle.demands.specs.Reaching.{There}
use Rattle.demands.specs.Removed.{SameFile}
use Rattle.demands.proofs.Removal.{SameFound, neither, both, start-same}

-- ---- ways

data SameWay : Way → Way → Type 0 where
  zero-way : SameWay from_zero from_zero
  checkpoint-way : {f g : File} → SameFile f g → SameWay (from_checkpoint f) (from_checkpoint g)
  then-way : {u w : Way} {f g : File} → SameWay u w → SameFile f g → SameWay (and_then u f) (and_then w g)

data SameWays : Option Way → Option Way → Type 0 where
  no_way : SameWays None None
  a-way : {u w : Way} → SameWay u w → SameWays (Some u) (Some w)

follow-same : {u w : Way} (s t : State) → SameWay u w → SameState s t → SameAnswer SameState (follow most_live s u) (follow most_live t w)
unfolding follow
follow-same s t zero-way h = both-accepted h
follow-same s t (checkpoint-way {f = f} {g = g} p) h =
    begun-same most_live f g p.body
follow-same s t (then-way {f = f} {g = g} r p) h =
    same-bind
    (λ st. read_file most_live of_version f st)
    (λ st. read_file most_live of_version g st)
    (follow-same s t r h)
    (λ a b q. read_file-same most_live of_version f g a b p.body q)

state_by-same : (log log' : Log) {u w : Option Way} → SameFound (log.version_file 0) (log'.version_file 0) → SameWays u w
    → SameAnswer SameState (state_by log u) (state_by log' w)
unfolding state_within
state_by-same log log' z r = go z r
  where
    state : Option File → Option Way → Answer State
    state o u = (or_refuse no_version_zero o) onward (λ f. (or_refuse not_kept u) onward (λ w. (read_zero f) onward (λ z. follow most_live z w)))

    go : {o o' : Option File} {u w : Option Way} → SameFound o o' → SameWays u w → SameAnswer SameState (state o u) (state o' w)
    go neither r = both-refused refl
    go (both p) no_way = both-refused refl
    go (both {f = f} {g = g} p) (a-way {u = u} {w = w} r) =
        same-bind (λ z. follow most_live z u) (λ z. follow most_live z w) (read_zero-same f g p.body) (λ a b h. follow-same a b r h)

onward_by-same : (f g : File) {u w : Option Way} → SameFile f g → SameWays u w → SameWays (onward_by f u) (onward_by g w)
unfolding onward_by
onward_by-same f g p no_way = no_way
onward_by-same f g p (a-way r) = a-way (then-way r p)

by_file-same : {o o' : Option File} (k l : Unit {0} → Option Way) → SameFound o o' → SameWays (k tt) (l tt) → SameWays (by_file o k) (by_file o' l)
unfolding by_file
by_file-same k l neither h = no_way
by_file-same k l (both {f = f} {g = g} p) h = onward_by-same f g p h

by_start-same : {o o' : Option File} (k l : Unit {0} → Option Way) → SameFound o o' → (o ≡ None → SameWays (k tt) (l tt))
    → SameWays (by_start o k) (by_start o' l)
unfolding by_start
by_start-same k l neither h = h refl
by_start-same k l (both p) h = a-way (checkpoint-way p)

-- ---- from c upward

pub record SameFrom (c : ℕ) (log log' : Log) : Type 0 where
  pub first : SameFound (log.version_file 0) (log'.version_file 0)
  pub versions : (w : ℕ) → c ≤ w → SameFound (log.version_file w) (log'.version_file w)
  pub checkpoints : (s : ℕ) → SameFound (log.checkpoint_file s) (log'.checkpoint_file s)
  pub marker : SameFound log.marker_file log'.marker_file

-- c is 0, or a start stands there
abbrev Anchored : Log → ℕ → Type 0
Anchored log c = (v : ℕ) → c ≡ suc v → start_at log (suc v) ≡ None → ⊥

way_same : (c : ℕ) (log log' : Log) → SameFrom c log log' → Anchored log c → (v : ℕ) → c ≤ v → SameWays (way_to log v) (way_to log' v)
unfolding way_to
way_same c log log' h a zero l =
    by_start-same (λ _. Some from_zero) (λ _. Some from_zero) (start-same log log' zero (h.checkpoints zero)) (λ e. a-way zero-way)
way_same c log log' h a (suc v) l =
    by_start-same
    (λ _. by_file (log.version_file (suc v)) (λ _. way_to log v))
    (λ _. by_file (log'.version_file (suc v)) (λ _. way_to log' v))
    (start-same log log' (suc v) (h.checkpoints (suc v)))
    (λ e. by_file-same (λ _. way_to log v) (λ _. way_to log' v) (h.versions (suc v) l) (go (way_same c log log' h a v) e (dec_le c v)))
  where
    go : (c ≤ v → SameWays (way_to log v) (way_to log' v)) → start_at log (suc v) ≡ None → Dec (c ≤ v) → SameWays (way_to log v) (way_to log' v)
    go ih e (yes b) = ih b
    go ih e (no n) = absurd (a v (omega arith) e)

-- ---- the marker, and the latest

pub marked_start : (log : Log) (c : ℕ) → marked log ≡ Some c → There (start_at log c)
unfolding marked
marked_start log c e =
    let a = bind-some log.marker_file (λ m. marker_version m.body >>= (λ d. start_at log d >>= (λ _. Some d))) e in
    let b = bind-some (marker_version a.0.body) (λ d. start_at log d >>= (λ _. Some d)) a.2 in
    let f = bind-some (start_at log b.0) (λ _. Some b.0) b.2 in
    let p : Some b.0 ≡ Some c = f.2 in
    let q : b.0 ≡ c = cc in
    subst (λ (x : ℕ). There (start_at log x)) q (f.0, f.1)

marked-anchored : (log : Log) → Anchored log (or_zero (marked log))
unfolding or_zero
marked-anchored log = go (marked log) refl
  where
    go : (o : Option ℕ) → marked log ≡ o → Anchored log (or_zero o)
    go None e v q h = omega arith
    go (Some c) e v q h =
        let t = subst (λ (x : ℕ). There (start_at log x)) q (marked_start log c e) in
        let r = t.1 in
        apart (cc)

pub marked-same : (c : ℕ) (log log' : Log) → SameFrom c log log' → marked log ≡ marked log'
unfolding marked
marked-same c log log' h = go h.marker
  where
    started : (d : ℕ) {o o' : Option File} → SameFound o o' → ◌≡◌ {A = Option ℕ} (o >>= (λ _. Some d)) (o' >>= (λ _. Some d))
    started d neither = refl
    started d (both p) = refl

    says : Log → Option ℕ → Option ℕ
    says l o = o >>= (λ d. start_at l d >>= (λ _. Some d))

    told : (o : Option ℕ) → says log o ≡ says log' o
    told None = refl
    told (Some d) = started d (start-same log log' d (h.checkpoints d))

    go : {o o' : Option File} → SameFound o o'
        → ◌≡◌ {A = Option ℕ} (o >>= (λ m. says log (marker_version m.body))) (o' >>= (λ m. says log' (marker_version m.body)))
    go neither = refl
    go (both {f = f} {g = g} p) = told (marker_version f.body) ∙ ap (λ b. says log' (marker_version b)) p.body

climb_by-same : {o o' : Option File} (s : ℕ) (k l : Unit {0} → ℕ) → SameFound o o' → k tt ≡ l tt → climb_by o s k ≡ climb_by o' s l
unfolding climb_by
climb_by-same s k l neither e = refl
climb_by-same s k l (both p) e = e

climb-same : (c : ℕ) (log log' : Log) → SameFrom c log log' → (n s : ℕ) → c ≤ s → climb n log s ≡ climb n log' s
unfolding climb
climb-same c log log' h zero s l = refl
climb-same c log log' h (suc n) s l =
    climb_by-same s (λ _. climb n log (suc s)) (λ _. climb n log' (suc s)) (h.versions (suc s) (omega arith)) (climb-same c log log' h n (suc s) (omega arith))

module _ (log log' : Log) (h : SameFrom (or_zero (marked log)) log log') where
  pub latest-same : latest log ≡ latest log'
  unfolding latest
  latest-same =
      climb-same (or_zero (marked log)) log log' h most (or_zero (marked log)) (omega arith)
      ∙ ap (λ (o : Option ℕ). climb most log' (or_zero o)) (marked-same (or_zero (marked log)) log log' h)

  pub listing-same-upward : (cs : List Condition) (v : ℕ) → or_zero (marked log) ≤ v → SameAnswer SameListing (listing_at cs log v) (listing_at cs log' v)
  unfolding listing_at listing_within
  listing-same-upward cs v l =
      same-bind (λ st. listing cs v st) (λ st. listing cs v st)
      (state_by-same log log' h.first (way_same (or_zero (marked log)) log log' h (marked-anchored log) v l))
      (λ a b r. listing-same cs v a b r)
