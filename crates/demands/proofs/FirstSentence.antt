-- The first sentences of demand 3: each step of the way of the log that is left gives what the full history gives.
use mathlib.Core.Path.{◌≡◌, refl, sym, ◌∙◌, subst}
use mathlib.Core.Logic.{◌⊎◌, inl, inr}
use mathlib.Core.Bool.{Bool, true, false}
use Rattle.std.specs.Prelude.{Option, None, Some}
use mathlib.Core.List.{List, [], ◌∷◌, map}
use Prim.Native.Nat.{ℕ, zero, suc, ◌≤◌}
use native.Mathlib.Omega.{arith}
use lib.Dec.{leb}
use Rattle.rules.specs.Bytes.{all_among}
use Rattle.rules.specs.Bundle.{File}
use Rattle.rules.specs.Names.{Name, version_in, checkpoint_in, is}
use Rattle.rules.specs.Live.{most_live}
use Rattle.rules.specs.History.{State, of_version, of_checkpoint, read_file, read_zero}
use Rattle.rules.specs.Starts.{Log, log_of, start_at, Way, from_zero, from_checkpoint, onward_by, by_file, by_start, way_to, history_to, nothing_live, follow}
use Rattle.rules.specs.Gate.{known_reader, reader_names, gate, writable}
use Rattle.rules.specs.Query.{Condition, column_of}
use Rattle.rules.specs.Picking.{picked, in_range_all}
use Rattle.rules.specs.Reading.{the_version, version_asked, Listing, state_by, listing, listing_at, history_listing, reading, state_within, listing_within}
use Rattle.rules.specs.Same.{SameState, SameListing, SameAnswer, both-accepted, both-refused}
use Rattle.rules.specs.Refusals.{◌>>=◌, Answer, accepted, refused, require, not_kept, reader_too_high, unknown_feature, no_such_column, value_out_of_range}
use Rattle.rules.proofs.Tests.{apart}
use Rattle.rules.proofs.Replaying.{bind-accepted}
use Rattle.rules.proofs.Sameness.{same-state-sym, same-state-trans, same-answer-trans}
use Rattle.rules.proofs.Answers.{same-bind, refused-number}
use Rattle.rules.proofs.Moving.{read_file-same, begun-same, read_zero-same, listing-same}
use Rattle.rules.proofs.Readings.{reading-is}
use Rattle.rules.proofs.Bundles.{bundle-sound}
use Rattle.demands.specs.Reaching.{SomeStart}
use Rattle.demands.specs.Removed.{SameFile, Without, end, keep, NotVersionZero}
use Rattle.demands.specs.FullHistory.{FullHistory}
use Rattle.demands.specs.FirstSentence.{KeptOrNot, FirstSentence, FullLogIsHistory}
use Rattle.demands.proofs.Starts.{no-way-no-start, way-some-start}
use Rattle.demands.proofs.Removal.{SameFound, Left, gone, kept, found-there, left_there, find-same, find-left, large-none, start-found, start_left}
use Rattle.demands.proofs.Readable.{history-way, state_by-is, history-told}

-- ---- the two ways, step by step

-- from the states that version 0 gives in the one log and in the other
module _ (z z' : State) where
  -- not reached; or reached, with the same facts
  data Agree : Option Way → Option Way → Type 0 where
    unreached : {o : Option Way} → Agree o None
    reached : {h w : Way} → SameAnswer SameState (follow most_live z h) (follow most_live z' w) → Agree (Some h) (Some w)

  onward_by-agree : (f g : File) {u w : Option Way} → SameFile f g → Agree u w → Agree (onward_by f u) (onward_by g w)
  unfolding onward_by follow
  onward_by-agree f g p unreached = unreached
  onward_by-agree f g p (reached r) =
      reached (same-bind (λ st. read_file most_live of_version f st) (λ st. read_file most_live of_version g st) r
      (λ a b q. read_file-same most_live of_version f g a b p.body q))

  by_file-agree : {o o' : Option File} (k l : Unit {0} → Option Way) → Left o o' → Agree (k tt) (l tt) → Agree (by_file o k) (by_file o' l)
  unfolding by_file
  by_file-agree k l gone a = unreached
  by_file-agree k l (kept {f = f} {g = g} p) a = onward_by-agree f g p a

  by_start-agree : (st : Option File) {o : Option Way} (l : Unit {0} → Option Way) → ((g : File) → st ≡ Some g → Agree o (Some (from_checkpoint g)))
      → Agree o (l tt) → Agree o (by_start st l)
  unfolding by_start
  by_start-agree None l h a = a
  by_start-agree (Some g) l h a = h g refl

  all-agree : (log log' : Log) (n : ℕ) → ((w : ℕ) → Left (log.version_file w) (log'.version_file w)) → SameState z z'
      → ((v : ℕ) → v ≤ n → (g : File) → start_at log' v ≡ Some g → Agree (history_to log v) (Some (from_checkpoint g)))
      → (v : ℕ) → v ≤ n → Agree (history_to log v) (way_to log' v)
  unfolding history_to way_to follow
  all-agree log log' n r h t zero l = by_start-agree (start_at log' zero) (λ _. Some from_zero) (t zero l) (reached (both-accepted h))
  all-agree log log' n r h t (suc v) l =
      by_start-agree (start_at log' (suc v)) (λ _. by_file (log'.version_file (suc v)) (λ _. way_to log' v)) (t (suc v) l)
      (by_file-agree (λ _. history_to log v) (λ _. way_to log' v) (r (suc v)) (all-agree log log' n r h t v (omega arith)))

agree-reached : (z z' : State) {h w : Way} → Agree z z' (Some h) (Some w) → SameAnswer SameState (follow most_live z h) (follow most_live z' w)
agree-reached z z' (reached r) = r

-- what is accepted from version 0 on is what the way gives
from_zero-accepted : (zf : File) (w : Way) (z st : State) → read_zero zf ≡ accepted z → (read_zero zf >>= (λ x. follow most_live x w)) ≡ accepted st
    → follow most_live z w ≡ accepted st
from_zero-accepted zf w z st e h =
    let p = bind-accepted (read_zero zf) (λ x. follow most_live x w) h in
    let q : accepted p.0 ≡ accepted z = sym p.1 ∙ e in
    let r : p.0 ≡ z = cc in
    subst (λ (x : State). follow most_live x w ≡ accepted st) r p.2

module _ (fs gs : List File) (n : ℕ) (full : FullHistory fs n)
    (versions : (w : ℕ) → Left ((log_of fs).version_file w) ((log_of gs).version_file w))
    (checkpoints : (c : ℕ) → Left ((log_of fs).checkpoint_file c) ((log_of gs).checkpoint_file c))
    (zf zf' : File) (z z' : State) (e : (log_of fs).version_file 0 ≡ Some zf) (e' : (log_of gs).version_file 0 ≡ Some zf')
    (ez : read_zero zf ≡ accepted z) (ez' : read_zero zf' ≡ accepted z') (same : SameState z z') where
  -- what the whole history gives
  told : (v : ℕ) (st : State) → v ≤ n → state_by (log_of fs) (history_to (log_of fs) v) ≡ accepted st
      → (h : Way) × (history_to (log_of fs) v ≡ Some h) × (follow most_live z h ≡ accepted st)
  told v st l q =
      let p = history-way (log_of fs) n full.all v l in
      (p.0, p.1, from_zero-accepted zf p.0 z st ez (sym (state_by-is (log_of fs) (history_to (log_of fs) v) zf p.0 e p.1) ∙ q))

  -- a checkpoint that is left is true
  left-true : (v : ℕ) → v ≤ n → (g : File) → start_at (log_of gs) v ≡ Some g → Agree z z' (history_to (log_of fs) v) (Some (from_checkpoint g))
  unfolding follow
  left-true v l g eg =
      let p = left_there g (start_left (log_of fs) (log_of gs) v (checkpoints v)) eg in
      let f = p.0 in
      let t = full.checkpoints-true v f (start-found (log_of fs) v f p.1) in
      let own : read_file most_live of_checkpoint f nothing_live ≡ accepted t.own =
      from_zero-accepted zf
      (from_checkpoint f)
      z t.own ez
      (sym (state_by-is (log_of fs) (Some (from_checkpoint f)) zf (from_checkpoint f) e refl) ∙ t.own_read) in
      let h = told v t.history l t.history-read in
      let a : SameAnswer SameState (follow most_live z h.0) (read_file most_live of_checkpoint f nothing_live) =
      rw (h.2, own) (both-accepted (same-state-sym t.same)) in
      rw h.1 (reached (same-answer-trans (λ x y u. same-state-trans) a (begun-same most_live f g p.2.body)))

  way_same : (v : ℕ) → v ≤ n → (w : Way) → way_to (log_of gs) v ≡ Some w
      → SameAnswer SameState (state_by (log_of fs) (history_to (log_of fs) v)) (state_by (log_of gs) (way_to (log_of gs) v))
  way_same v l w ew =
      let h = history-way (log_of fs) n full.all v l in
      let a : Agree z z' (history_to (log_of fs) v) (way_to (log_of gs) v) = all-agree z z' (log_of fs) (log_of gs) n versions same left-true v l in
      let b : Agree z z' (Some h.0) (Some w) = rw (h.1, ew) at a in
      rw (state_by-is (log_of fs) (history_to (log_of fs) v) zf h.0 e h.1, state_by-is (log_of gs) (way_to (log_of gs) v) zf' w e' ew, ez, ez')
      (agree-reached z z' b)

-- ---- reading

-- the gate, the columns and the values refuse by 8, 9, 11 and 18
listing-kept : (cs : List Condition) (v : ℕ) (st : State) → listing cs v st ≡ refused not_kept → ⊥
unfolding listing gate
listing-kept cs v st e =
    go
    (leb st.in_force.min_reader_version known_reader)
    (all_among reader_names st.in_force.reader_features)
    (all_among st.table.partition_columns (map column_of cs))
    (in_range_all cs st.live)
    listed e
  where
    listed : Listing
    listed = record { version = v; table = st.table; in_force = st.in_force; can_write = writable st.in_force; rows = picked cs st.live }

    go : (a b c d : Bool) (l : Listing)
        → ((require reader_too_high a >>= (λ _. require unknown_feature b))
        >>= (λ _. require no_such_column c >>= (λ _. require value_out_of_range d >>= (λ _. accepted l)))) ≡ refused not_kept → ⊥
    go false b c d l e = let q : ◌≡◌ {A = ℕ} 8 5 = refused-number e in omega arith
    go true false c d l e = let q : ◌≡◌ {A = ℕ} 9 5 = refused-number e in omega arith
    go true true false d l e = let q : ◌≡◌ {A = ℕ} 11 5 = refused-number e in omega arith
    go true true true false l e = let q : ◌≡◌ {A = ℕ} 18 5 = refused-number e in omega arith
    go true true true true l e = apart (cc)

same-accepted : {A : Type 0} {Same : A → A → Type 0} {x y : Answer A} (a : A) → SameAnswer Same x y → x ≡ accepted a → (b : A) × (y ≡ accepted b)
same-accepted a (both-accepted {b = b} r) e = (b, refl)
same-accepted a (both-refused r) e = apart (cc)

not-reached : (log : Log) (zf : File) (o : Option Way) → log.version_file 0 ≡ Some zf → o ≡ None → state_by log o ≡ refused not_kept
unfolding state_within
not-reached log zf o e q = rw (e, q)

module _ (fs gs : List File) (n : ℕ) (full : FullHistory fs n)
    (versions : (w : ℕ) → Left ((log_of fs).version_file w) ((log_of gs).version_file w))
    (checkpoints : (c : ℕ) → Left ((log_of fs).checkpoint_file c) ((log_of gs).checkpoint_file c))
    (first : SameFound ((log_of fs).version_file 0) ((log_of gs).version_file 0)) where
  kept_or_not : (cs : List Condition) (v : ℕ) → v ≤ n → KeptOrNot (log_of gs) v (history_listing cs (log_of fs) v) (listing_at cs (log_of gs) v)
  unfolding history_listing listing_at listing_within
  kept_or_not cs v l =
      let z = full.all 0 (omega arith) in
      let z' = found-there z.0 first z.1 in
      let x = full.zero-readable z.0 z.1 in
      let zeros = read_zero-same z.0 z'.0 z'.2.body in
      let x' = same-accepted x.0 zeros x.1 in
      let held : SameState x.0 x'.0 = both-held x.0 x'.0 zeros x.1 x'.1 in
      go
      (way_to (log_of gs) v)
      refl
      z'.0
      z'.1
      (way_same fs gs n full versions checkpoints z.0 z'.0 x.0 x'.0 z.1 z'.1 x.1 x'.1 held v l)
    where
      both-held : {a b : Answer State} (x y : State) → SameAnswer SameState a b → a ≡ accepted x → b ≡ accepted y → SameState x y
      both-held x y (both-accepted {a = x₁} {b = y₁} r) e f =
          let p : x₁ ≡ x = cc in let q : y₁ ≡ y = cc in subst (λ (u : State). SameState u y) p (subst (λ (u : State). SameState x₁ u) q r)
      both-held x y (both-refused r) e f = apart (cc)

      go : (o : Option Way) → way_to (log_of gs) v ≡ o → (zf : File) → (log_of gs).version_file 0 ≡ Some zf
          → ((w : Way) → way_to (log_of gs) v ≡ Some w
          → SameAnswer SameState (state_by (log_of fs) (history_to (log_of fs) v)) (state_by (log_of gs) (way_to (log_of gs) v)))
          → KeptOrNot (log_of gs) v (history_listing cs (log_of fs) v) (listing_at cs (log_of gs) v)
      go None e zf ez same =
          let q : listing_at cs (log_of gs) v ≡ refused not_kept = rw (not-reached (log_of gs) zf (way_to (log_of gs) v) ez e) in
          record { either = inr q; exactly-when = ((λ _. no-way-no-start (log_of gs) v e), (λ _. q)) }
      go (Some w) e zf ez same =
          let s = same w e in
          let st = history-told fs n full v l in
          let st' = same-accepted st.0 s st.1 in
          let p = way-some-start (log_of gs) v w (zf, ez) e in
          record {
            either = inl (same-bind (λ st. listing cs v st) (λ st. listing cs v st) s (λ a b r. listing-same cs v a b r));
            exactly-when = (
              (λ q. absurd (listing-kept cs v st'.0 (rw st'.1 at q))),
              (λ none_left. absurd (none_left p.s p.start p.reaches)),
            );
          }

pub first-sentence : FirstSentence
unfolding log_of version_asked
first-sentence s t q fs gs cs n v room es full et w l eq r =
    let sound = bundle-sound s fs es in
    rw (reading-is room t q (the_version v) cs gs r eq et (large-none NotVersionZero w full.none-too-large))
    (kept_or_not fs gs n full
    (λ x. find-left NotVersionZero (λ (m : Name). is x (version_in m)) (sound.one_version x) w)
    (λ c. find-left NotVersionZero (λ (m : Name). is c (checkpoint_in m)) (sound.one_checkpoint c) w)
    (find-same NotVersionZero (λ (m : Name). is 0 (version_in m)) (λ f h. h) w)
    cs v l)

none-removed : (MayGo : File → Type 0) (fs : List File) → Without MayGo fs fs
none-removed MayGo [] = end
none-removed MayGo (f ∷ fs) = keep (record { name = refl; time = refl; body = refl }) (none-removed MayGo fs)

pub full-log-is-history : FullLogIsHistory
full-log-is-history s q fs cs n v room es full l eq r = go (first-sentence s s q fs fs cs n v room es full es (none-removed NotVersionZero fs) l eq r)
  where
    reaches : SomeStart (log_of fs) v
    reaches =
        record { s = 0; start = inl (refl, full.all 0 (omega arith)); reaches = record { below = omega arith; between = λ w a b. full.all w (omega arith) } }

    go : KeptOrNot (log_of fs) v (history_listing cs (log_of fs) v) (reading room s q (the_version v))
        → SameAnswer SameListing (history_listing cs (log_of fs) v) (reading room s q (the_version v))
    go k = sides k.either
      where
        sides : SameAnswer SameListing
            (history_listing cs (log_of fs) v)
            (reading room s q (the_version v))
            ⊎
            (reading room s q (the_version v) ≡ refused not_kept)
            → SameAnswer SameListing (history_listing cs (log_of fs) v) (reading room s q (the_version v))
        sides (inl h) = h
        sides (inr h) = absurd (k.exactly-when.0 h reaches.s reaches.start reaches.reaches)
