-- A checkpoint that is a start, the marker that names one, and the way to a version, going down from it.
use mathlib.Core.Path.{◌≡◌, refl, sym, ap, ◌∙◌, subst}
use mathlib.Core.Bool.{true, false}
use Rattle.std.specs.Prelude.{Option, None, Some}
use Prim.Native.Nat.{ℕ, zero, suc, ◌-◌}
use native.Mathlib.Omega.{arith}
use Rattle.rules.specs.Bytes.{Bytes, ◌>>=◌}
use Rattle.rules.specs.Numbers.{most}
use Rattle.rules.specs.Bundle.{File}
use Rattle.rules.specs.Starts.{Log, log_of, is_start, if_start, start_at, Way, from_zero}
use Rattle.rules.specs.Starts.{from_checkpoint, and_then, onward_by, by_file, by_start, way_to, other_way_to}
use Rattle.rules.specs.Marker.{marker_version, marked, climb, or_zero, latest}
use Rattle.rules.proofs.Tests.{apart}
use Rattle.file_bundle.specs.Files.{files_in}
use Rattle.file_names.specs.declared.Version.{Version}
use Rattle.log_starts.specs.Marks.{named_by, mark_is}
use Rattle.log_starts.specs.Ways.{Leads, here, next, StartIs}
use Rattle.log_starts.specs.declared.Start.{Start}
use Rattle.log_starts.specs.declared.Start.TheVariants.{Zero, Checkpoint}

-- ---- a checkpoint that is a start

if-good : (f : File) → is_start f.body ≡ true → if_start (Some f) ≡ Some f
unfolding if_start
if-good f w = rw (if_start, w)

if-bad : (f : File) → is_start f.body ≡ false → if_start (Some f) ≡ None
unfolding if_start
if-bad f w = rw (if_start, w)

module _ (log : Log) (v : ℕ) where
  pub start_none : log.checkpoint_file v ≡ None → start_at log v ≡ None
  unfolding start_at if_start
  start_none e = ap if_start e

  module _ (f : File) (e : log.checkpoint_file v ≡ Some f) where
    pub start-good : is_start f.body ≡ true → start_at log v ≡ Some f
    unfolding start_at
    start-good w = ap if_start e ∙ if-good f w

    pub start-bad : is_start f.body ≡ false → start_at log v ≡ None
    unfolding start_at
    start-bad w = ap if_start e ∙ if-bad f w

-- ---- the marker

module _ (log : Log) where
  pub named_none : log.marker_file ≡ None → named_by log ≡ None
  unfolding named_by
  named_none e = ap (λ (o : Option File). o >>= λ m. marker_version m.body) e

  pub named-text : (m : File) → log.marker_file ≡ Some m → named_by log ≡ marker_version m.body
  unfolding named_by
  named-text m e = ap (λ (o : Option File). o >>= λ m. marker_version m.body) e

  marked-named : marked log ≡ (named_by log >>= λ c. start_at log c >>= λ _. Some c)
  unfolding marked named_by
  marked-named = go log.marker_file
    where
      go : (o : Option File)
          → (o >>= λ m. marker_version m.body >>= λ c. start_at log c >>= λ _. Some c)
          ≡ ((o >>= λ m. marker_version m.body) >>= λ c. start_at log c >>= λ _. Some c)
      go None = refl
      go (Some m) = refl

  pub marked-none : named_by log ≡ None → marked log ≡ None
  marked-none e = marked-named ∙ ap (λ (o : Option ℕ). o >>= λ c. start_at log c >>= λ _. Some c) e

  module _ (c : ℕ) (n : named_by log ≡ Some c) where
    marked-number : marked log ≡ (start_at log c >>= λ _. Some c)
    marked-number = marked-named ∙ ap (λ (o : Option ℕ). o >>= λ k. start_at log k >>= λ _. Some k) n

    pub marked-dead : start_at log c ≡ None → marked log ≡ None
    marked-dead s = marked-number ∙ ap (λ (o : Option File). o >>= λ _. Some c) s

    pub marked-at : {f : File} → start_at log c ≡ Some f → marked log ≡ Some c
    marked-at s = marked-number ∙ ap (λ (o : Option File). o >>= λ _. Some c) s

  -- ---- the latest version

  pub latest-at : {n : ℕ} → marked log ≡ Some n → climb most log n ≡ latest log
  unfolding latest or_zero
  latest-at e = ap (λ (o : Option ℕ). climb most log (or_zero o)) (sym e)

  pub latest-marked : (v : Version) → Some v ≡ mark_is (marked log) → climb most log v.0 ≡ latest log
  unfolding latest mark_is or_zero
  latest-marked v e = ap (λ (n : ℕ). climb most log n) (go (marked log) e)
    where
      go : (o : Option ℕ) → Some v ≡ mark_is o → v.0 ≡ or_zero o
      go None p = apart (cc)
      go (Some n) p =
          let q : v ≡ record { 0 = n } = cc in
          ap (λ (x : Version). x.0) q

  pub latest-unmarked : None ≡ mark_is (marked log) → climb most log 0 ≡ latest log
  unfolding latest mark_is or_zero
  latest-unmarked e = ap (λ (n : ℕ). climb most log n) (go (marked log) e)
    where
      go : (o : Option ℕ) → None ≡ mark_is o → 0 ≡ or_zero o
      go None p = refl
      go (Some n) p = apart (cc)

-- ---- the way to a version

leads-before : {log : Log} {x : Way} {g : File} {w v : ℕ} {y : Way} → log.version_file (suc w) ≡ Some g → Leads log (and_then x g) (suc w) v y
    → Leads log x w v y
leads-before e here = next here e
leads-before e (next l f) = next (leads-before e l) f

module _ (log : Log) where
  pub way-start : (w : ℕ) {f : File} → start_at log w ≡ Some f → way_to log w ≡ Some (from_checkpoint f)
  unfolding way_to by_start
  way-start zero e = ap (λ (o : Option File). by_start o (λ _. Some from_zero)) e
  way-start (suc w) e = ap (λ (o : Option File). by_start o (λ _. by_file (log.version_file (suc w)) (λ _. way_to log w))) e

  way-zero : start_at log 0 ≡ None → way_to log 0 ≡ Some from_zero
  unfolding way_to by_start
  way-zero e = ap (λ (o : Option File). by_start o (λ _. Some from_zero)) e

  pub way-file : (w : ℕ) → start_at log (suc w) ≡ None → way_to log (suc w) ≡ by_file (log.version_file (suc w)) (λ _. way_to log w)
  unfolding way_to by_start
  way-file w e = ap (λ (o : Option File). by_start o (λ _. by_file (log.version_file (suc w)) (λ _. way_to log w))) e

  by-gap : {o : Option File} (before : Option Way) → o ≡ None → by_file o (λ _. before) ≡ None
  unfolding by_file
  by-gap before e = ap (λ (x : Option File). by_file x (λ _. before)) e

  by-file : {o : Option File} (before : Option Way) {g : File} → o ≡ Some g → by_file o (λ _. before) ≡ onward_by g before
  unfolding by_file
  by-file before e = ap (λ (x : Option File). by_file x (λ _. before)) e

  -- what o, a way to v, is by the way to w below it
  pub record Falling (v : ℕ) (o : Option Way) (w : ℕ) : Type 0 where
    pub on : (x : Way) → way_to log w ≡ Some x → (y : Way) × (o ≡ Some y) × Leads log x w v y
    pub off : way_to log w ≡ None → o ≡ None

  pub falling-start : (v : ℕ) → Falling v (way_to log v) v
  falling-start v = record { on = λ x e. (x, e, here); off = λ e. e }

  falling-by : {v : ℕ} {o : Option Way} {w : ℕ} {g : File} → log.version_file (suc w) ≡ Some g
      → ((x : Way) → onward_by g (way_to log w) ≡ Some x → (y : Way) × (o ≡ Some y) × Leads log x (suc w) v y) → (onward_by g (way_to log w) ≡ None → o ≡ None)
      → Falling v o w
  unfolding onward_by
  falling-by {v} {o} {w} {g} e on off = record {
    on = λ x p. let r = on (and_then x g) (ap (onward_by g) p) in (r.0, r.1, leads-before e r.2);
    off = λ p. off (ap (onward_by g) p);
  }

  module _ {v : ℕ} {o : Option Way} {w : ℕ} (h : Falling v o w) where
    pub falling-gap : (w ≡ 0 → ⊥) → start_at log w ≡ None → log.version_file w ≡ None → o ≡ None
    falling-gap n s e = go w n s e h.off
      where
        go : (w : ℕ) → (w ≡ 0 → ⊥) → start_at log w ≡ None → log.version_file w ≡ None → (way_to log w ≡ None → o ≡ None) → o ≡ None
        go zero n s e off = absurd (n refl)
        go (suc u) n s e off = off (way-file u s ∙ by-gap (way_to log u) e)

    pub falling-next : (w ≡ 0 → ⊥) → start_at log w ≡ None → {g : File} → log.version_file w ≡ Some g → Falling v o (w - 1)
    falling-next n s {g} e = go w n s e h.on h.off
      where
        go : (u : ℕ) → (u ≡ 0 → ⊥) → start_at log u ≡ None → log.version_file u ≡ Some g
            → ((x : Way) → way_to log u ≡ Some x → (y : Way) × (o ≡ Some y) × Leads log x u v y) → (way_to log u ≡ None → o ≡ None) → Falling v o (u - 1)
        go zero n s e on off = absurd (n refl)
        go (suc u) n s e on off =
            let k : suc u - 1 ≡ u = omega arith in
            let q : way_to log (suc u) ≡ onward_by g (way_to log u) = way-file u s ∙ by-file (way_to log u) e in
            subst (λ (i : ℕ). Falling v o i) (sym k) (falling-by e (λ x p. on x (q ∙ p)) (λ p. off (q ∙ p)))

    pub falling-zero : w ≡ 0 → start_at log w ≡ None → (x : Way) × (o ≡ Some x) × Leads log from_zero 0 v x
    falling-zero z s =
        let e : way_to log w ≡ Some from_zero = ap (way_to log) z ∙ way-zero (ap (start_at log) (sym z) ∙ s) in
        let r = h.on from_zero e in
        (r.0, r.1, subst (λ (i : ℕ). Leads log from_zero i v r.0) z r.2)

    pub falling-checkpoint : {f : File} → start_at log w ≡ Some f → (x : Way) × (o ≡ Some x) × Leads log (from_checkpoint f) w v x
    falling-checkpoint {f} s = h.on (from_checkpoint f) (way-start w s)

  -- ---- the way that is not from the checkpoint at c

  pub other-zero : (c : ℕ) → c ≡ 0 → (x : Way) × (other_way_to log c ≡ Some x) × Leads log from_zero 0 c x
  unfolding other_way_to
  other-zero zero z = (from_zero, refl, here)
  other-zero (suc c) z = absurd (omega arith)

  pub other-gap : (c : ℕ) → (c ≡ 0 → ⊥) → log.version_file c ≡ None → other_way_to log c ≡ None
  unfolding other_way_to
  other-gap zero n e = absurd (n refl)
  other-gap (suc c) n e = by-gap (way_to log c) e

  pub other-falling : (c : ℕ) → (c ≡ 0 → ⊥) → {g : File} → log.version_file c ≡ Some g → Falling c (other_way_to log c) (c - 1)
  unfolding other_way_to
  other-falling zero n e = absurd (n refl)
  other-falling (suc c) n {g} e =
      let k : suc c - 1 ≡ c = omega arith in
      let q : other_way_to log (suc c) ≡ onward_by g (way_to log c) = by-file (way_to log c) e in
      subst (λ (i : ℕ). Falling (suc c) (other_way_to log (suc c)) i) (sym k) (falling-by e (λ x p. (x, q ∙ p, here)) (λ p. q ∙ p))

leads-join : {log : Log} {a w : Way} {s u v : ℕ} {y : Way} → Leads log a s u w → Leads log w u v y → Leads log a s v y
leads-join l here = l
leads-join l (next m e) = next (leads-join l m) e

-- the start of what lies below is that of what lies above
pub start-onward : (src : Bytes) (u v : ℕ) (o : Option Way) (r : Option Start) → Falling (log_of (files_in src)) v o u
    → StartIs src u (way_to (log_of (files_in src)) u) r → StartIs src v o r
start-onward src u v o (Some Zero) f h = let q = f.on h.0 h.1 in (q.0, q.1, leads-join h.2 q.2)
start-onward src u v o (Some (Checkpoint k s)) f h = let q = f.on h.2 h.3 in (h.0, h.1, q.0, q.1, leads-join h.4 q.2)
start-onward src u v o None f h = f.off h
