-- The last sentence of demand 3: what the cleaner names are version files below its checkpoint, and above it nothing is missed.
use mathlib.Core.Path.{◌≡◌, refl, sym, ◌∙◌, ap, subst}
use mathlib.Core.Logic.{inl, inr}
use mathlib.Core.Bool.{Bool, true, false, not}
use Rattle.std.specs.Prelude.{Option, None, Some}
use mathlib.Core.List.{List, [], ◌∷◌}
use Prim.Native.Nat.{ℕ, suc, ◌≤◌, ◌<◌}
use native.Mathlib.Omega.{arith}
use lib.Dec.{leb, ltb}
use borrow.Author.Tests.{ltb-true, ne_eqb}
use Rattle.rules.specs.Bytes.{Bytes, ascii, keep_if}
use Rattle.rules.specs.Bundle.{File, bundle}
use Rattle.rules.specs.Names.{Name, version, checkpoint, marker, other, too_large, name_of}
use Rattle.rules.specs.Names.{version_in, checkpoint_in, is_marker, is_too_large, is, any_too_large}
use Rattle.rules.specs.Starts.{log_of, Way, start_at, other_way_to}
use Rattle.rules.specs.Marker.{marked, or_zero, latest}
use Rattle.rules.specs.Query.{Condition, query}
use Rattle.rules.specs.Rooms.{rows_room}
use Rattle.rules.specs.Reading.{Asked, the_latest, the_version, version_asked, Listing, listing_at, reading}
use Rattle.rules.specs.Cleaning.{is_between, is_old, may_go, named, compared, cleaned_by, cleaned_at, Lent, enough, cleaning}
use Rattle.rules.specs.Same.{SameListing, SameAnswer}
use Rattle.rules.specs.Refusals.{◌>>=◌, Answer, accepted, or_refuse, require, room_too_short}
use Rattle.rules.specs.Refusals.{bundle_malformed, version_too_large, no_version_zero, query_malformed}
use Rattle.rules.proofs.Tests.{apart, and_left, and_right}
use Rattle.rules.proofs.Replaying.{bind-accepted}
use Rattle.rules.proofs.Sameness.{same-listing-refl, same-listing-trans, same-answer-refl, same-answer-trans}
use Rattle.rules.proofs.Answers.{same-require, same-or_refuse}
use Rattle.rules.proofs.Due.{due-same}
use Rattle.rules.proofs.Bundles.{Numbered, bundle-sound}
use Rattle.demands.specs.Removed.{Without, end, keep, remove, In, Named}
use Rattle.demands.specs.LastSentence.{KeepsAnswers, checkpoint_of, Run, LastSentence, not-run, once_more, StoppedHalfway}
use Rattle.demands.proofs.Removal.{find-same, large-same}
use Rattle.demands.proofs.Starts.{latest-above}
use Rattle.demands.proofs.Upward.{SameFrom, marked-same, latest-same, listing-same-upward}

-- ---- what is named

named-above : (c now retention k n : ℕ) (fs : List File) → Numbered k fs → In n (named c now retention fs) → k ≤ n
unfolding named keep_if
named-above c now retention k n [] u h = absurd h
named-above c now retention k n (f ∷ fs) (e, u) h = go (may_go c now retention f) h (named-above c now retention (suc k) n fs u)
  where
    go : (b : Bool) → In n (keep_if b f.entry (named c now retention fs)) → (In n (named c now retention fs) → suc k ≤ n) → k ≤ n
    go true (inl q) ih = omega arith
    go true (inr h) ih = omega (arith, ih h)
    go false h ih = omega (arith, ih h)

in-later : (k n : ℕ) (es : List ℕ) (b : Bool) → k < n → In n (keep_if b k es) → In n es
unfolding keep_if
in-later k n es true l (inl q) = absurd (omega arith)
in-later k n es true l (inr h) = h
in-later k n es false l h = h

-- what is removed by its entry number is a file that may go
module _ (c now retention : ℕ) where
  named-may-go : (es : List ℕ) (k : ℕ) {fs gs : List File} → Numbered k fs → ((n : ℕ) → k ≤ n → In n es → In n (named c now retention fs))
      → Without (Named es) fs gs → Without (λ f. may_go c now retention f ≡ true) fs gs
  unfolding named keep_if
  named-may-go es k u h end = end
  named-may-go es k u h (keep {f = f} {fs = fs} p w) =
      keep p
      (named-may-go es (suc k) u.1
      (λ n l m. in-later f.entry n (named c now retention fs) (may_go c now retention f) (omega (arith, u.0)) (h n (omega arith) m)) w)
  named-may-go es k u h (remove {f = f} {fs = fs} m w) =
      remove (go (may_go c now retention f) refl (h f.entry (omega (arith, u.0)) m))
      (named-may-go es (suc k) u.1
      (λ n l m. in-later f.entry n (named c now retention fs) (may_go c now retention f) (omega (arith, u.0)) (h n (omega arith) m)) w)
    where
      go : (b : Bool) → may_go c now retention f ≡ b → In f.entry (keep_if b f.entry (named c now retention fs)) → may_go c now retention f ≡ true
      go true e i = e
      go false e i = absurd (omega (arith, named-above c now retention (suc k) f.entry fs u.1 i, u.0))

-- a version file w, 0 < w < c
abbrev Between : ℕ → File → Type 0
Between c f = (w : ℕ) × (name_of f.name ≡ version w) × (0 < w) × (w < c)

pub is_between-version : (c : ℕ) (n : Name) → is_between c (version_in n) ≡ true → (w : ℕ) × (n ≡ version w) × (0 < w) × (w < c)
unfolding is_between version_in
is_between-version c (version w) e = (w, refl, ltb-true 0 w (and_left (ltb 0 w) (ltb w c) e), ltb-true w c (and_right (ltb 0 w) (ltb w c) e))
is_between-version c (checkpoint w) e = apart (cc)
is_between-version c marker e = apart (cc)
is_between-version c other e = apart (cc)
is_between-version c too_large e = apart (cc)

may_go-between : (c now retention : ℕ) (f : File) → may_go c now retention f ≡ true → Between c f
unfolding may_go
may_go-between c now retention f e =
    is_between-version c (name_of f.name) (and_left (is_between c (version_in (name_of f.name))) (is_old now retention f.time) e)

pub without-weaken : {P Q : File → Type 0} {fs gs : List File} → ((f : File) → P f → Q f) → Without P fs gs → Without Q fs gs
without-weaken h end = end
without-weaken h (keep p w) = keep p (without-weaken h w)
without-weaken h (remove {f = f} m w) = remove (h f m) (without-weaken h w)

nothing-in : {A : Type 0} (n : ℕ) (es : List ℕ) → ◌≡◌ {A = Answer (List ℕ)} (accepted []) (accepted es) → In n es → A
nothing-in n [] e h = absurd h
nothing-in n (x ∷ es) e h = apart (cc)

cleaned-names : (zf : File) (now retention : ℕ) (fs : List File) (o : Option ℕ) (es : List ℕ) → cleaned_at o zf now retention fs ≡ accepted es
    → (n : ℕ) → In n es → In n (named (or_zero o) now retention fs)
unfolding cleaned_at or_zero cleaned_by
cleaned-names zf now retention fs None es e n h = nothing-in n es e h
cleaned-names zf now retention fs (Some c) es e n h = go (start_at (log_of fs) c) (other_way_to (log_of fs) c) e
  where
    go : (o : Option File) (w : Option Way) → cleaned_by zf o w (named c now retention fs) ≡ accepted es → In n (named c now retention fs)
    go None w e = nothing-in n es e h
    go (Some f) None e = nothing-in n es e h
    go (Some f) (Some w) e =
        let p = bind-accepted (compared zf f w) (λ _. accepted (named c now retention fs)) e in
        let q : accepted (named c now retention fs) ≡ accepted es = p.2 in
        let r : es ≡ named c now retention fs = cc in
        subst (In n) r h

cleaning-names : (lent : Lent) (s : Bytes) (now retention : ℕ) (fs : List File) (es : List ℕ) → bundle s ≡ Some fs → cleaning lent s now retention ≡ accepted es
    → (n : ℕ) → In n es → In n (named (checkpoint_of fs) now retention fs)
unfolding cleaning
cleaning-names lent s now retention fs es eb h =
    let a = bind-accepted (require room_too_short (enough lent)) (λ _. or_refuse bundle_malformed (bundle s) >>= passed) h in
    let b : (or_refuse bundle_malformed (Some fs) >>= passed) ≡ accepted es = rw eb at a.2 in
    let c = bind-accepted (require version_too_large (not (any_too_large fs)))
    (λ _. or_refuse no_version_zero ((log_of fs).version_file 0) >>= (λ zf. cleaned_at (marked (log_of fs)) zf now retention fs)) b in
    let d = bind-accepted (or_refuse no_version_zero ((log_of fs).version_file 0)) (λ zf. cleaned_at (marked (log_of fs)) zf now retention fs) c.2 in
    cleaned-names d.0 now retention fs (marked (log_of fs)) es d.2
  where
    passed : List File → Answer (List ℕ)
    passed fs =
        require version_too_large (not (any_too_large fs))
        >>= (λ _. or_refuse no_version_zero ((log_of fs).version_file 0) >>= (λ zf. cleaned_at (marked (log_of fs)) zf now retention fs))

-- ---- what is left

module _ (c : ℕ) (test : Name → Bool) where
  -- a test that no version file between passes
  between-fails : ((w : ℕ) → 0 < w → w < c → test (version w) ≡ false) → (f : File) → Between c f → test (name_of f.name) ≡ false
  between-fails h f (w, e, a, b) = rw e (h w a b)

without-same : (c : ℕ) (fs gs : List File) → Without (Between c) fs gs → SameFrom c (log_of fs) (log_of gs)
unfolding log_of is version_in checkpoint_in is_marker
without-same c fs gs w = record {
  first =
      find-same
      (Between c)
      (λ (n : Name). is 0 (version_in n))
      (between-fails c (λ (n : Name). is 0 (version_in n)) (λ x a b. ne_eqb 0 x (λ q. omega arith)))
      w;
  versions = λ v l. find-same
      (Between c)
      (λ (n : Name). is v (version_in n))
      (between-fails c (λ (n : Name). is v (version_in n)) (λ x a b. ne_eqb v x (λ q. omega arith)))
      w;
  checkpoints = λ s. find-same (Between c) (λ (n : Name). is s (checkpoint_in n)) (between-fails c (λ (n : Name). is s (checkpoint_in n)) (λ x a b. refl)) w;
  marker = find-same (Between c) is_marker (between-fails c is_marker (λ x a b. refl)) w;
}

without-large : (c : ℕ) (fs gs : List File) → Without (Between c) fs gs → any_too_large fs ≡ any_too_large gs
unfolding is_too_large
without-large c fs gs w = large-same (Between c) (between-fails c is_too_large (λ x a b. refl)) w

-- reading two bundles alike, as far as their logs answer alike
reading-same : (room : ℕ) (s t q : Bytes) (asked : Asked) (fs gs : List File) → bundle s ≡ Some fs → bundle t ≡ Some gs → any_too_large fs ≡ any_too_large gs
    → ((cs : List Condition)
    → SameAnswer SameListing (listing_at cs (log_of fs) (version_asked asked (log_of fs))) (listing_at cs (log_of gs) (version_asked asked (log_of gs))))
    → SameAnswer SameListing (reading room s q asked) (reading room t q asked)
unfolding reading
reading-same room s t q asked fs gs es et large h =
    rw (es, et, ← large)
    (same-require room_too_short room_too_short refl (leb rows_room room) (on_query fs) (on_query gs)
    (same-or_refuse query_malformed query_malformed refl (query q) (on_names fs) (on_names gs)
    (λ cs. same-require version_too_large version_too_large refl (not (any_too_large fs)) (answer fs cs) (answer gs cs) (h cs))))
  where
    answer : List File → List Condition → Answer Listing
    answer xs cs = listing_at cs (log_of xs) (version_asked asked (log_of xs))

    on_names : List File → List Condition → Answer Listing
    on_names xs cs = require version_too_large (not (any_too_large fs)) >>= (λ _. answer xs cs)

    on_query : List File → Answer Listing
    on_query xs = or_refuse query_malformed (query q) >>= on_names xs

-- ---- one run

run-same : (s t : Bytes) (fs gs : List File) → Run s t fs gs → SameFrom (checkpoint_of fs) (log_of fs) (log_of gs) × (any_too_large fs ≡ any_too_large gs)
run-same s t fs gs r =
    let c = checkpoint_of fs in
    let w = without-weaken (may_go-between c r.now r.retention)
    (named-may-go c r.now r.retention r.es 0 (bundle-sound s fs r.before).numbered
    (λ n l h. cleaning-names r.lent s r.now r.retention fs r.es r.before r.names n h) r.removed) in
    (without-same c fs gs w, without-large c fs gs w)

-- the due files are those of the latest listing
keeps-by : (c : ℕ) (s t : Bytes)
    → ((room : ℕ) (q : Bytes) (v : ℕ) → c ≤ v → SameAnswer SameListing (reading room s q (the_version v)) (reading room t q (the_version v)))
    → ((room : ℕ) (q : Bytes) → SameAnswer SameListing (reading room s q the_latest) (reading room t q the_latest))
    → KeepsAnswers c s t
keeps-by c s t numbered last =
    record { by_number = numbered; the-latest = last; due = λ room time. due-same room s t the_latest the_latest time (last room (ascii "[]")) }

pub last-sentence : LastSentence
unfolding version_asked
last-sentence s t fs gs r =
    let p = run-same s t fs gs r in
    let at = listing-same-upward (log_of fs) (log_of gs) p.0 in
    keeps-by (checkpoint_of fs) s t
    (λ room q v l. reading-same room s t q (the_version v) fs gs r.before r.after p.1 (λ cs. at cs v l))
    (λ room q. reading-same room s t q the_latest fs gs r.before r.after p.1
    (λ cs. subst (λ (v : ℕ). SameAnswer SameListing (listing_at cs (log_of fs) (latest (log_of fs))) (listing_at cs (log_of gs) v)) (latest-same (log_of fs)
    (log_of gs) p.0)
    (at cs (latest (log_of fs)) (latest-above (log_of fs)))))

-- ---- any number of runs

keeps-trans : (c : ℕ) (s t u : Bytes) → KeepsAnswers c s t → KeepsAnswers c t u → KeepsAnswers c s u
keeps-trans c s t u h k =
    keeps-by c s u
    (λ room q v l. same-answer-trans (λ a b d. same-listing-trans) (h.by_number room q v l) (k.by_number room q v l))
    (λ room q. same-answer-trans (λ a b d. same-listing-trans) (h.the-latest room q) (k.the-latest room q))

pub stopped-halfway : StoppedHalfway
stopped-halfway s _ fs e not-run =
    keeps-by (checkpoint_of fs) s s
    (λ room q v l. same-answer-refl same-listing-refl (reading room s q (the_version v)))
    (λ room q. same-answer-refl same-listing-refl (reading room s q the_latest))
stopped-halfway s u fs e (once_more {t = t} {fs = hs} {gs = gs} r more) =
    let p : Some hs ≡ Some fs = sym r.before ∙ e in
    let q : hs ≡ fs = cc in
    let c : checkpoint_of hs ≡ checkpoint_of gs = ap or_zero (marked-same (checkpoint_of hs) (log_of hs) (log_of gs) (run-same s t hs gs r).0) in
    subst (λ (xs : List File). KeepsAnswers (checkpoint_of xs) s u) q
    (keeps-trans (checkpoint_of hs) s t u (last-sentence s t hs gs r)
    (subst (λ (x : ℕ). KeepsAnswers x t u) (sym c) (stopped-halfway t u gs r.after more)))
