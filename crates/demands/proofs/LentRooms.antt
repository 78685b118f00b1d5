-- Demand 1, the rooms: an answer's numbers never exceed the stated room, so what lies beyond stays, and so does the length.
use mathlib.Core.Path.{◌≡◌, refl, sym, ◌∙◌, ap, subst}
use mathlib.Core.Logic.{◌⊎◌, inl, inr}
use mathlib.Core.Bool.{Bool, true, false, not}
use Rattle.std.specs.Prelude.{Option, None, Some}
use mathlib.Core.List.{List, [], ◌∷◌, ◌++◌, map, append_assoc}
use Prim.Native.Nat.{ℕ, zero, suc, ◌+◌, ◌*◌, ◌-◌, ◌≤◌}
use native.Mathlib.Omega.{arith}
use lib.Dec.{leb}
use lib.ListN.{length, take, drop, replicate, length-append, length-replicate}
use lib.Seq.{take_at, drop_at, drop-append-add}
use borrow.Author.Tests.{leb-true}
use Rattle.rules.specs.Bytes.{Bytes, ascii, all_among, keep_if}
use Rattle.rules.specs.Bundle.{File, most_entries, bundle}
use Rattle.rules.specs.Names.{any_too_large}
use Rattle.rules.specs.Live.{most_live, Row}
use Rattle.rules.specs.History.{State}
use Rattle.rules.specs.Starts.{Log, log_of, start_at, Way, way_to, other_way_to}
use Rattle.rules.specs.Marker.{marked}
use Rattle.rules.specs.Gate.{gate, writable}
use Rattle.rules.specs.Query.{Condition, column_of, query}
use Rattle.rules.specs.Picking.{meets_all, picked, in_range_all}
use Rattle.rules.specs.Manifests.{Manifest, manifests, most_manifests, dropped, kept_from}
use Rattle.rules.specs.Rooms.{Room, rows_room, kept_room, names_room, filled, leaves, row_numbers, rows_numbers}
use Rattle.rules.specs.Reading.{Asked, version_asked, Listing, state_by, listing, listing_at, reading, room_after_reading, listing_within}
use Rattle.rules.specs.Due.{due_rows, due_listing, due}
use Rattle.rules.specs.Keeping.{keeping, room_after_keeping}
use Rattle.rules.specs.Cleaning.{may_go, named, compared, cleaned_by, cleaned_at, Lent, enough, cleaning, names_after_cleaning, table_after_cleaning}
use Rattle.rules.specs.Refusals.{Refusal, Answer, accepted, refused, ◌>>=◌, or_refuse, require, room_too_short, bundle_malformed, version_too_large}
use Rattle.rules.specs.Refusals.{no_version_zero, query_malformed, no_such_column, value_out_of_range, state_malformed, too_many_manifests}
use Rattle.rules.proofs.Tests.{apart}
use Rattle.rules.proofs.Replaying.{bind-accepted, require-accepted, state_by-live}
use Rattle.rules.proofs.Rooms.{length-filled, leaves-accepted, leaves-untouched, leaves-zeros}
use Rattle.rules.proofs.Answers.{number_of, refused-number}
use Rattle.rules.proofs.Due.{due_rows-few}
use Rattle.rules.proofs.Bundles.{bundle-sound}
use Rattle.demands.specs.CleaningExactly.{Enough}
use Rattle.demands.specs.Ending.{RoomEnds, ReadingRoomEnds, DueRoomEnds, KeepingRoomEnds, lengths, CleaningRoomsEnd}
use Rattle.demands.proofs.CleaningWords.{true-enough}

-- ---- a room that is filled

drop-filled : (n : ℕ) (xs : List ℕ) (room : Room) → length xs ≤ n → drop n (filled n xs room) ≡ drop n room
unfolding filled
drop-filled n xs room h =
    let e : n ≡ length xs + (n - length xs) = omega arith in
    let zs : List ℕ = replicate (n - length xs) 0 in
    let inner : drop (n - length xs) (zs ++ drop n room) ≡ drop n room = drop_at zs (drop n room) (n - length xs) (length-replicate (n - length xs) 0) in
    ap (λ (k : ℕ). drop k (xs ++ (zs ++ drop n room))) e ∙ drop-append-add xs (zs ++ drop n room) (n - length xs) ∙ inner

take-filled : (n : ℕ) (xs : List ℕ) (room : Room) → length xs ≤ n → take n (filled n xs room) ≡ xs ++ replicate (n - length xs) 0
unfolding filled
take-filled n xs room h =
    let zs : List ℕ = replicate (n - length xs) 0 in
    let e : length (xs ++ zs) ≡ n = length-append xs zs ∙ ap (λ (k : ℕ). length xs + k) (length-replicate (n - length xs) 0) ∙ omega arith in
    ap (take n) (sym (append_assoc xs zs (drop n room))) ∙ take_at (xs ++ zs) (drop n room) n e

take-filled-none : (n : ℕ) (room : Room) → take n (filled n [] room) ≡ replicate n 0
take-filled-none n room = let e : n - 0 ≡ n = omega arith in take-filled n [] room (omega arith) ∙ ap (λ (k : ℕ). replicate {A = ℕ} k 0) e

-- ---- what an answer leaves, where only refusal 1 comes of a short room, and the numbers are not too many

leaves-ends : {A : Type 0} (n : ℕ) (numbers : A → List ℕ) (answer : Answer A) (room : Room) → ((number_of answer ≡ 1 → ⊥) → n ≤ length room)
    → ((a : A) → answer ≡ accepted a → length (numbers a) ≤ n) → RoomEnds n numbers answer room (leaves n numbers answer room)
unfolding number_of
leaves-ends {A} n numbers (accepted a) room long few =
    let e = leaves-accepted n numbers room a in
    record {
      filled = λ b h. let q : a ≡ b = cc in
          ap (take n) e
          ∙ subst (λ (x : A). take n (filled n (numbers a) room) ≡ numbers x ++ replicate (n - length (numbers x)) 0) q
          (take-filled n (numbers a) room (few a refl));
      untouched = λ r h. apart (cc);
      zeros = λ r h. apart (cc);
      beyond = ap (drop n) e ∙ drop-filled n (numbers a) room (few a refl);
      long = ap length e ∙ length-filled n (numbers a) room (few a refl) (long (λ q. omega arith));
    }
leaves-ends {A} n numbers (refused s) room long few = by_number (decide s.number)
  where
    decide : (k : ℕ) → (k ≡ 1) ⊎ (k ≡ 1 → ⊥)
    decide zero = inr (λ q. omega arith)
    decide (suc zero) = inl refl
    decide (suc (suc k)) = inr (λ q. omega arith)

    by_number : (s.number ≡ 1) ⊎ (s.number ≡ 1 → ⊥) → RoomEnds {A = A} n numbers (refused s) room (leaves n numbers (refused s) room)
    by_number (inl one) =
        let e = leaves-untouched n numbers room s one in
        record {
          filled = λ b h. apart (cc);
          untouched = λ r h q. e;
          zeros = λ r h q. absurd (q (sym (refused-number h) ∙ one));
          beyond = ap (drop n) e;
          long = ap length e;
        }
    by_number (inr other) =
        let e = leaves-zeros n numbers room s other in
        record {
          filled = λ b h. apart (cc);
          untouched = λ r h q. absurd (other (refused-number h ∙ q));
          zeros = λ r h q. ap (take n) e ∙ take-filled-none n room;
          beyond = ap (drop n) e ∙ drop-filled n [] room (omega arith);
          long = ap length e ∙ length-filled n [] room (omega arith) (long other);
        }

-- `said` is told of the answer: refused by the same, or accepted with the same numbers in front
pub room-told : {A B : Type 0} (n : ℕ) (numbers : A → List ℕ) (front : B → List ℕ) (answer : Answer A) (said : Answer B) (before after : Room)
    → ((r : Refusal) → said ≡ refused r → answer ≡ refused r)
    → ((b : B) → said ≡ accepted b → (a : A) × (answer ≡ accepted a) × (numbers a ≡ front b))
    → RoomEnds n numbers answer before after → RoomEnds n front said before after
room-told n numbers front answer said before after back forth e = record {
  filled = λ b h. let f = forth b h in subst (λ (ns : List ℕ). take n after ≡ ns ++ replicate (n - length ns) 0) f.2 (e.filled f.0 f.1);
  untouched = λ r h. e.untouched r (back r h);
  zeros = λ r h. e.zeros r (back r h);
  beyond = e.beyond;
  long = e.long;
}

-- a first step that refuses a short room
long-enough : {A : Type 0} (b : Bool) (f : Unit {0} → Answer A) → (number_of (require room_too_short b >>= f) ≡ 1 → ⊥) → b ≡ true
unfolding number_of
long-enough true f h = refl
long-enough false f h = absurd (h refl)

reading-long : (room : ℕ) (s q : Bytes) (asked : Asked) → (number_of (reading room s q asked) ≡ 1 → ⊥) → rows_room ≤ room
unfolding reading
reading-long room s q asked h = leb-true rows_room room (long-enough (leb rows_room room) (λ _. _) h)

keeping-long : (room : ℕ) (state q : Bytes) → (number_of (keeping room state q) ≡ 1 → ⊥) → kept_room ≤ room
unfolding keeping
keeping-long room state q h = leb-true kept_room room (long-enough (leb kept_room room) (λ _. _) h)

cleaning-long : (lent : Lent) (s : Bytes) (now retention : ℕ) → (number_of (cleaning lent s now retention) ≡ 1 → ⊥) → Enough lent
unfolding cleaning
cleaning-long lent s now retention h = true-enough lent (long-enough (enough lent) (λ _. _) h)

-- ---- reading

pub length-rows_numbers : (rs : List Row) → length (rows_numbers rs) ≡ length rs * 6
unfolding rows_numbers row_numbers
length-rows_numbers [] = refl
length-rows_numbers (r ∷ rs) =
    let e : length (rows_numbers rs) ≡ length rs * 6 = length-rows_numbers rs in omega (arith, length-append (row_numbers r) (rows_numbers rs))

length-keep_if : {A : Type 0} (b : Bool) (x : A) (xs : List A) → length (keep_if b x xs) ≤ suc (length xs)
unfolding keep_if
length-keep_if true x xs = omega arith
length-keep_if false x xs = omega arith

length-picked : (cs : List Condition) (rs : List Row) → length (picked cs rs) ≤ length rs
unfolding picked
length-picked cs [] = omega arith
length-picked cs (r ∷ rs) = omega (arith, length-keep_if (meets_all cs r.facts) r (picked cs rs), length-picked cs rs)

listing-rows : (cs : List Condition) (v : ℕ) (st : State) (l : Listing) → listing cs v st ≡ accepted l → l.rows ≡ picked cs st.live
unfolding listing
listing-rows cs v st l h =
    let a = bind-accepted (gate st.in_force) (λ _. require no_such_column (all_among st.table.partition_columns (map column_of cs)) >>= (λ _. ranged)) h in
    let b = bind-accepted (require no_such_column (all_among st.table.partition_columns (map column_of cs))) (λ _. ranged) a.2 in
    let c = bind-accepted (require value_out_of_range (in_range_all cs st.live)) (λ _. accepted listed) b.2 in
    let d : accepted listed ≡ accepted l = c.2 in
    let e : listed ≡ l = cc in
    sym (ap (λ (x : Listing). x.rows) e)
  where
    listed : Listing
    listed = record { version = v; table = st.table; in_force = st.in_force; can_write = writable st.in_force; rows = picked cs st.live }

    ranged : Answer Listing
    ranged = require value_out_of_range (in_range_all cs st.live) >>= (λ _. accepted listed)

listing_at-few : (cs : List Condition) (log : Log) (v : ℕ) (l : Listing) → listing_at cs log v ≡ accepted l → length (rows_numbers l.rows) ≤ rows_room
unfolding listing_at listing_within most_live rows_room
listing_at-few cs log v l h = go (bind-accepted (state_by log (way_to log v)) (λ st. listing cs v st) h)
  where
    go : (st : State) × (state_by log (way_to log v) ≡ accepted st) × (listing cs v st ≡ accepted l) → length (rows_numbers l.rows) ≤ rows_room
    go (st, e, h) =
        let fits : length st.live ≤ 1_024 = (state_by-live log (way_to log v) st e).1 in
        let rows : length l.rows ≡ length (picked cs st.live) = ap length (listing-rows cs v st l h) in
        omega (arith, rows, length-picked cs st.live, length-rows_numbers l.rows)

reading-few : (room : ℕ) (s q : Bytes) (asked : Asked) (l : Listing) → reading room s q asked ≡ accepted l → length (rows_numbers l.rows) ≤ rows_room
unfolding reading
reading-few room s q asked l h =
    let a = bind-accepted (require room_too_short (leb rows_room room)) (λ _. or_refuse query_malformed (query q) >>= queried) h in
    let b = bind-accepted (or_refuse query_malformed (query q)) queried a.2 in
    let c = bind-accepted (or_refuse bundle_malformed (bundle s)) (opened b.0) b.2 in
    let d = bind-accepted (require version_too_large (not (any_too_large c.0))) (λ _. answer b.0 c.0) c.2 in
    let v = version_asked asked (log_of c.0) in
    listing_at-few b.0 (log_of c.0) v l d.2
  where
    answer : List Condition → List File → Answer Listing
    answer cs fs = listing_at cs (log_of fs) (version_asked asked (log_of fs))

    opened : List Condition → List File → Answer Listing
    opened cs fs = require version_too_large (not (any_too_large fs)) >>= (λ _. answer cs fs)

    queried : List Condition → Answer Listing
    queried cs = or_refuse bundle_malformed (bundle s) >>= opened cs

pub reading-room-ends : ReadingRoomEnds
unfolding room_after_reading
reading-room-ends room s q asked =
    leaves-ends rows_room
    (λ (l : Listing). rows_numbers l.rows)
    (reading (length room) s q asked)
    room
    (reading-long (length room) s q asked)
    (reading-few (length room) s q asked)

-- ---- the due files

due-few : (room : ℕ) (s : Bytes) (asked : Asked) (time : ℕ) (l : Listing) → due room s asked time ≡ accepted l → length (rows_numbers l.rows) ≤ rows_room
unfolding due due_listing
due-few room s asked time l h =
    let a = bind-accepted (reading room s (ascii "[]") asked) (λ m. accepted (due_listing time m)) h in
    let e : accepted (due_listing time a.0) ≡ accepted l = a.2 in
    let q : due_listing time a.0 ≡ l = cc in
    let r : due_rows time a.0.rows ≡ l.rows = ap (λ (x : Listing). x.rows) q in
    let n : length (due_rows time a.0.rows) ≡ length l.rows = ap length r in
    omega (
      arith,
      n,
      due_rows-few time a.0.rows,
      length-rows_numbers l.rows,
      length-rows_numbers a.0.rows,
      reading-few room s (ascii "[]") asked a.0 a.1,
    )

due-long : (room : ℕ) (s : Bytes) (asked : Asked) (time : ℕ) → (number_of (due room s asked time) ≡ 1 → ⊥) → rows_room ≤ room
unfolding due number_of
due-long room s asked time h = go (reading room s (ascii "[]") asked) refl h
  where
    go : (o : Answer Listing) → reading room s (ascii "[]") asked ≡ o → (number_of (o >>= (λ m. accepted (due_listing time m))) ≡ 1 → ⊥) → rows_room ≤ room
    go (accepted m) e h = reading-long room s (ascii "[]") asked (λ q. let z : ◌≡◌ {A = ℕ} 0 1 = sym (ap number_of e) ∙ q in absurd (omega arith))
    go (refused r) e h = reading-long room s (ascii "[]") asked (λ q. h (sym (ap number_of e) ∙ q))

pub due-room-ends : DueRoomEnds
unfolding room_after_reading
due-room-ends room s asked time =
    leaves-ends rows_room
    (λ (l : Listing). rows_numbers l.rows)
    (due (length room) s asked time)
    room
    (due-long (length room) s asked time)
    (due-few (length room) s asked time)

-- ---- keeping

length-kept_from : (k : ℕ) (cs : List Condition) (ms : List Manifest) → length (kept_from k cs ms) ≤ length ms
unfolding kept_from
length-kept_from k cs [] = omega arith
length-kept_from k cs (m ∷ ms) = omega (arith, length-keep_if (not (dropped cs m)) k (kept_from (suc k) cs ms), length-kept_from (suc k) cs ms)

keeping-few : (room : ℕ) (state q : Bytes) (ks : List ℕ) → keeping room state q ≡ accepted ks → length ks ≤ kept_room
unfolding keeping kept_room most_manifests
keeping-few room state q ks h =
    let a = bind-accepted (require room_too_short (leb kept_room room)) (λ _. or_refuse query_malformed (query q) >>= queried) h in
    let b = bind-accepted (or_refuse query_malformed (query q)) queried a.2 in
    let c = bind-accepted (or_refuse state_malformed (manifests state)) (counted b.0) b.2 in
    let d = bind-accepted (require too_many_manifests (leb (length c.0) most_manifests)) (λ _. accepted (kept_from 0 b.0 c.0)) c.2 in
    let m : length c.0 ≤ 256 = leb-true (length c.0) most_manifests (require-accepted too_many_manifests (leb (length c.0) most_manifests) d.1) in
    let e : accepted (kept_from 0 b.0 c.0) ≡ accepted ks = d.2 in
    let f : kept_from 0 b.0 c.0 ≡ ks = cc in
    subst (λ (xs : List ℕ). length xs ≤ 256) f (omega (arith, length-kept_from 0 b.0 c.0))
  where
    counted : List Condition → List Manifest → Answer (List ℕ)
    counted cs ms = require too_many_manifests (leb (length ms) most_manifests) >>= (λ _. accepted (kept_from 0 cs ms))

    queried : List Condition → Answer (List ℕ)
    queried cs = or_refuse state_malformed (manifests state) >>= counted cs

pub keeping-room-ends : KeepingRoomEnds
unfolding room_after_keeping
keeping-room-ends room state q =
    leaves-ends kept_room (λ (ks : List ℕ). ks) (keeping (length room) state q) room (keeping-long (length room) state q) (keeping-few (length room) state q)

-- ---- cleaning

length-named : (c now retention : ℕ) (fs : List File) → length (named c now retention fs) ≤ length fs
unfolding named
length-named c now retention [] = omega arith
length-named c now retention (f ∷ fs) =
    omega (arith, length-keep_if (may_go c now retention f) f.entry (named c now retention fs), length-named c now retention fs)

cleaned_at-few : (o : Option ℕ) (zf : File) (now retention : ℕ) (fs : List File) (es : List ℕ) → cleaned_at o zf now retention fs ≡ accepted es
    → length es ≤ length fs
unfolding cleaned_at cleaned_by
cleaned_at-few None zf now retention fs es h = let e : [] ≡ es = cc in subst (λ (xs : List ℕ). length xs ≤ length fs) e (omega arith)
cleaned_at-few (Some c) zf now retention fs es h = go (start_at (log_of fs) c) (other_way_to (log_of fs) c) h
  where
    go : (o : Option File) (w : Option Way) → cleaned_by zf o w (named c now retention fs) ≡ accepted es → length es ≤ length fs
    go None w h = let e : [] ≡ es = cc in subst (λ (xs : List ℕ). length xs ≤ length fs) e (omega arith)
    go (Some f) None h = let e : [] ≡ es = cc in subst (λ (xs : List ℕ). length xs ≤ length fs) e (omega arith)
    go (Some f) (Some w) h =
        let p = bind-accepted (compared zf f w) (λ _. accepted (named c now retention fs)) h in
        let q : accepted (named c now retention fs) ≡ accepted es = p.2 in
        let e : named c now retention fs ≡ es = cc in
        subst (λ (xs : List ℕ). length xs ≤ length fs) e (length-named c now retention fs)

cleaning-few : (lent : Lent) (s : Bytes) (now retention : ℕ) (es : List ℕ) → cleaning lent s now retention ≡ accepted es → length es ≤ names_room
unfolding cleaning names_room most_entries
cleaning-few lent s now retention es h =
    let a = bind-accepted (require room_too_short (enough lent)) (λ _. or_refuse bundle_malformed (bundle s) >>= opened) h in
    go (bundle s) refl a.2
  where
    cleaned : List File → File → Answer (List ℕ)
    cleaned fs zf = cleaned_at (marked (log_of fs)) zf now retention fs

    opened : List File → Answer (List ℕ)
    opened fs = require version_too_large (not (any_too_large fs)) >>= (λ _. or_refuse no_version_zero ((log_of fs).version_file 0) >>= cleaned fs)

    go : (o : Option (List File)) → bundle s ≡ o → (or_refuse bundle_malformed o >>= opened) ≡ accepted es → length es ≤ names_room
    go None e h = apart (cc)
    go (Some fs) e h =
        let b =
        bind-accepted (require version_too_large (not (any_too_large fs))) (λ _. or_refuse no_version_zero ((log_of fs).version_file 0) >>= cleaned fs) h in
        let c = bind-accepted (or_refuse no_version_zero ((log_of fs).version_file 0)) (cleaned fs) b.2 in
        let few : length fs ≤ 1_024 = (bundle-sound s fs e).few in
        omega (arith, cleaned_at-few (marked (log_of fs)) c.0 now retention fs es c.2)

pub cleaning-rooms-end : CleaningRoomsEnd
unfolding names_after_cleaning table_after_cleaning
cleaning-rooms-end names table₁ table₂ s now retention =
    let lent = lengths names table₁ table₂ in
    let answer = cleaning lent s now retention in
    record {
      of-names = leaves-ends names_room (λ (es : List ℕ). es) answer names (λ h. (cleaning-long lent s now retention h).0) (cleaning-few lent s now retention);
      first-table = leaves-ends rows_room (λ (es : List ℕ). []) answer table₁ (λ h. (cleaning-long lent s now retention h).1) (λ es h. omega arith);
      second-table = leaves-ends rows_room (λ (es : List ℕ). []) answer table₂ (λ h. (cleaning-long lent s now retention h).2) (λ es h. omega arith);
    }
