-- Demand 2, answers: what an entry answers is what the rules accept, and its room holds the numbers of it.
use mathlib.Core.Path.{◌≡◌, refl, sym, ◌∙◌, ap, subst}
use mathlib.Core.Logic.{◌⊎◌, inl, inr, ◌↔◌}
use mathlib.Core.Bool.{Bool, true}
use mathlib.Core.List.{List, [], ◌++◌}
use Prim.Native.Nat.{ℕ, ◌-◌}
use lib.ListN.{length, take, replicate}
use Rattle.facts.specs.Lists.{All}
use Rattle.rules.specs.Bytes.{Bytes, ascii}
use Rattle.rules.specs.Actions.{Protocol}
use Rattle.rules.specs.Live.{Row}
use Rattle.rules.specs.Starts.{log_of, way_to}
use Rattle.rules.specs.Gate.{writable}
use Rattle.rules.specs.Rooms.{Room, rows_room, kept_room, names_room, rows_numbers}
use Rattle.rules.specs.Reading.{Asked, the_latest, version_asked, Told, told, reading}
use Rattle.rules.specs.Reading.{Listing as Ruled}
use Rattle.rules.specs.Due.{due}
use Rattle.rules.specs.Keeping.{keeping, room_after_keeping}
use Rattle.rules.specs.Cleaning.{named, cleaning, names_after_cleaning}
use Rattle.rules.specs.Same.{SameState}
use Rattle.rules.specs.Refusals.{Answer, accepted}
use Rattle.rules.proofs.Answers.{accepted-same}
use Rattle.rules.proofs.Telling.{told-accepted}
use Rattle.demands.specs.Exactly.{Readable, version_in, Read, answer_of}
use Rattle.demands.specs.CleaningExactly.{NotWritable, NothingToName, Begun, Compared, Names}
use Rattle.demands.specs.Choosing.{Picks, Keeps}
use Rattle.demands.specs.Due.{DueOf}
use Rattle.demands.specs.Places.{StandsIn}
use Rattle.demands.specs.Replayed.{StateSays}
use Rattle.demands.proofs.Exactly.{reading-exactly}
use Rattle.demands.proofs.KeepingExactly.{keeping-exactly}
use Rattle.demands.proofs.CleaningExactly.{cleaning-exactly}
use Rattle.demands.proofs.CleaningWords.{named-exactly}
use Rattle.demands.proofs.Choosing.{picks-exactly, keeps-exactly, writable-exactly}
use Rattle.demands.proofs.Replayed.{replays-exactly}
use Rattle.demands.proofs.Places.{rows-stand-in-the-bundle, due-rows-stand-in-the-bundle}
use Rattle.demands.proofs.LentRooms.{reading-room-ends, due-room-ends}
use Rattle.demands.proofs.Due.{due-exactly}
use Rattle.reading.specs.Answers.{read_is, AnswerIs, ReadIs, DueIs}
use Rattle.reading.specs.declared.Listing.{Listing}
use Rattle.std.specs.Prelude.{Ok}
use Rattle.cleaning.specs.Answers.{cleaned_is, lent, CleanIs}
use Rattle.manifests.specs.Rooms.{kept_is, KeepIs}
use Rattle.demands_upheld.specs.Answering.{Lists, ListsExactly, DueExactly, KeepsExactly, NamesExactly, nothing, files}
use Rattle.demands_upheld.proofs.Ending.{counted-front}

-- ---- reading

-- what the code lists is told of what the rules accept
record Tells (l : Listing) (m : Ruled) : Type 0 where
  version : l.version.0 ≡ m.version
  count : l.rows ≡ length m.rows
  reader : l.reader ≡ m.in_force.min_reader_version
  writer : l.writer ≡ m.in_force.min_writer_version
  verdict : l.writable ≡ m.can_write

tells : (l : Listing) (m : Ruled) → read_is (Ok l) ≡ told (accepted m) → Tells l m
unfolding read_is told
tells l m e =
    let same = accepted-same e in
    record {
      version = ap (λ (t : Told). t.version) same;
      count = ap (λ (t : Told). t.count) same;
      reader = ap (λ (t : Told). t.reader) same;
      writer = ap (λ (t : Told). t.writer) same;
      verdict = ap (λ (t : Told). t.can_write) same;
    }

listed-ruled : (o : Answer Ruled) (room after : Room) (l : Listing) → AnswerIs o room after (Ok l) → (m : Ruled) × (o ≡ accepted m) × Tells l m
unfolding read_is
listed-ruled o room after l c =
    let m = told-accepted o _ (sym c.answer) in
    (m.0, m.1, tells l m.0 (sym m.2))

-- what the rules accept, m, is of the state that is read
lists-by : (Chosen : (live chosen : List Row) → Type 0) (s q : Bytes) (asked : Asked) (room after : Room) (l : Listing) (d : Read (length room) s q asked)
    (m : Ruled) → Tells l m → m.version ≡ version_in asked d.opened → m.in_force ≡ d.state.in_force → m.can_write ≡ writable d.state.in_force
    → Chosen d.state.live m.rows → All (StandsIn s) m.rows
    → take rows_room after ≡ rows_numbers m.rows ++ replicate (rows_room - length (rows_numbers m.rows)) 0
    → Lists Chosen s asked after l
lists-by Chosen s q asked room after l d m t version in_force can_write chosen places table =
    let log = log_of d.opened.fs in
    let says = replays-exactly log (way_to log (version_asked asked log)) d.state d.state-read in
    let at : l.version.0 ≡ version_asked asked log = t.version ∙ version in
    record {
      fs = d.opened.fs;
      st = d.state;
      rows = m.rows;
      bundle-read = d.opened.bundle-read;
      version = at;
      live = subst (λ (v : ℕ). StateSays log (way_to log v) d.state) (sym at) says;
      chosen = chosen;
      places = places;
      count = t.count;
      reader = t.reader ∙ ap (λ (p : Protocol). p.min_reader_version) in_force;
      writer = t.writer ∙ ap (λ (p : Protocol). p.min_writer_version) in_force;
      verdict = subst (λ (b : Bool). (b ≡ true) ↔ (NotWritable d.state.in_force → ⊥)) (sym (t.verdict ∙ can_write)) (writable-exactly d.state.in_force);
      table = table;
    }

pub lists-upheld : (s q : Bytes) (asked : Asked) (room after : Room) (l : Listing) → ReadIs s q asked room after (Ok l) → ListsExactly s q asked after l
lists-upheld s q asked room after l c =
    let m = listed-ruled (reading (length room) s q asked) room after l c in
    let a = ((reading-exactly (length room) s q asked).no-0 m.0).0 m.1 in
    let d = a.0 in
    let e = m.1 ∙ ap accepted (sym a.4) in
    record {
      cs = d.opened.cs;
      query-read = d.opened.query-read;
      lists = lists-by (Picks d.opened.cs) s q asked room after l d (answer_of d) (subst (Tells l) (sym a.4) m.2) refl refl refl
          (picks-exactly d.opened.cs d.state.live) (rows-stand-in-the-bundle (length room) s q asked (answer_of d) e)
          (ap (take rows_room) c.holds ∙ (reading-room-ends room s q asked).filled (answer_of d) e);
    }

-- ---- the files due for a second merge

pub due-listed : (s : Bytes) (time : ℕ) (room after : Room) (l : Listing) → DueIs s time room after (Ok l) → DueExactly s time after l
due-listed s time room after l c =
    let m = listed-ruled (due (length room) s the_latest time) room after l c in
    let d = (due-exactly (length room) s the_latest time m.0).0 m.1 in
    lists-by (DueOf time) s (ascii "[]") the_latest room after l d.read m.0 m.2 d.version d.in_force d.can_write d.rows
    (due-rows-stand-in-the-bundle (length room) s the_latest time m.0 m.1)
    (ap (take rows_room) c.holds ∙ (due-room-ends room s the_latest time).filled m.0 m.1)

-- ---- keeping

pub keeps-upheld : (state q : Bytes) (room after : Room) (n : ℕ) → KeepIs state q room after (Ok n) → KeepsExactly state q after n
unfolding kept_is room_after_keeping
keeps-upheld state q room after n c = go (counted-front kept_room (keeping (length room) state q) (accepted n) c.answer room after c.holds n refl)
  where
    go : (ks : List ℕ) × (keeping (length room) state q ≡ accepted ks) × (ks ≡ take n after) × (length ks ≡ n) → KeepsExactly state q after n
    go (ks, e, front, long) =
        let (_, (cs, eq, (ms, es, few, f))) = ((keeping-exactly (length room) state q).no-0 ks).0 e in
        record {
          cs = cs;
          ms = ms;
          query-read = eq;
          state-read = es;
          keeps = subst (Keeps cs 0 ms) (f ∙ front) (keeps-exactly cs ms);
          count = ap length (sym front) ∙ long;
        }

-- ---- cleaning

pub names-upheld : (s : Bytes) (now retention : ℕ) (room room' one one' two two' : Room) (n : ℕ)
    → CleanIs s now retention room room' one one' two two' (Ok n) → NamesExactly (lent room one two) s now retention room' n
unfolding cleaned_is names_after_cleaning
names-upheld s now retention room room' one one' two two' n c =
    go (counted-front names_room (cleaning (lent room one two) s now retention) (accepted n) c.answer room room' c.names n refl)
  where
    named_by : (es : List ℕ) → es ≡ take n room' → length es ≡ n
        → ((b : Begun (lent room one two) s) × NothingToName (log_of b.fs) × ([] ≡ es))
        ⊎ ((d : Compared (lent room one two) s) × Readable d.mine.in_force × (NotWritable d.mine.in_force → ⊥) × SameState d.mine d.theirs
        × (named d.comparing.c now retention d.comparing.begun.fs ≡ es))
        → NamesExactly (lent room one two) s now retention room' n
    named_by es front long (inl (b, h, e)) = subst (NamesExactly (lent room one two) s now retention room') (ap length e ∙ long) (nothing b h)
    named_by es front long (inr (d, a, w, m, e)) =
        let c = d.comparing.c in
        let fs = d.comparing.begun.fs in
        files d a w m (subst (Names c now retention fs) (e ∙ front) (named-exactly c now retention fs)) (ap length (sym front) ∙ long)

    go : (es : List ℕ) × (cleaning (lent room one two) s now retention ≡ accepted es) × (es ≡ take n room') × (length es ≡ n)
        → NamesExactly (lent room one two) s now retention room' n
    go (es, e, front, long) = named_by es front long (((cleaning-exactly (lent room one two) s now retention).no-0 es).0 e)
