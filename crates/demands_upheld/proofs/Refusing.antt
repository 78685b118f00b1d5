-- Demand 2, refusals: a refusal of the code is one of the rules, and so it is given when its rule says so, and only then.
use mathlib.Core.Path.{◌≡◌, refl, sym, ◌∙◌, ap}
use mathlib.Core.Logic.Iff
use mathlib.Core.Logic.{◌↔◌}
use mathlib.Core.Bool.{false}
use mathlib.Core.List.{List}
use Prim.Native.Nat.{ℕ}
use lib.ListN.{length}
use Rattle.rules.specs.Bytes.{Bytes, ascii}
use Rattle.rules.specs.Rooms.{Room, counted}
use Rattle.rules.specs.Reading.{Asked, the_latest, Listing, told, reading}
use Rattle.rules.specs.Due.{due}
use Rattle.rules.specs.Keeping.{keeping}
use Rattle.rules.specs.Cleaning.{cleaning}
use Rattle.rules.specs.Refusals.{Answer, refused}
use Rattle.rules.proofs.Telling.{told-refused, counted-refused}
use Rattle.demands.specs.Ending.{Ends}
use Rattle.demands.specs.Exactly.{ReadingExactly}
use Rattle.demands.proofs.Ending.{is_in, never-refused, reading-ends, keeping-ends, cleaning-ends}
use Rattle.demands.proofs.Exactly.{reading-exactly}
use Rattle.demands.proofs.Due.{due-ends, due-refuses-exactly}
use Rattle.demands.proofs.KeepingExactly.{keeping-exactly}
use Rattle.demands.proofs.CleaningExactly.{cleaning-exactly}
use Rattle.refusals.specs.Numbered.{numbered}
use Rattle.refusals.specs.declared.Refusal.{Refusal}
use Rattle.refusals.specs.declared.Refusal.TheVariants.{RoomTooShort, BundleMalformed, VersionTooLarge, NoVersionZero, NotKept, Malformed, TooManyLive}
use Rattle.refusals.specs.declared.Refusal.TheVariants.{ReaderTooHigh, UnknownFeature, QueryMalformed, NoSuchColumn, NotWritable, CheckpointDisagrees}
use Rattle.refusals.specs.declared.Refusal.TheVariants.{StateMalformed, TooManyManifests, ListRefused, OutputTooShort, ValueOutOfRange}
use Rattle.refusals.specs.declared.Refusal.TheVariants.{ContainerMalformed, OtherSchema, ForeignKeys}
use Rattle.reading.specs.Answers.{read_is, AnswerIs, ReadIs, DueIs}
use Rattle.std.specs.Prelude.{Result, Err}
use Rattle.reading.proofs.Alone.{read_is-alone}
use Rattle.cleaning.specs.Answers.{cleaned_is, lent, CleanIs}
use Rattle.cleaning.proofs.Alone.{clean-alone}
use Rattle.manifests.specs.Rooms.{kept_is, KeepIs}
use Rattle.manifests.proofs.Alone.{keep-alone}
use Rattle.demands_upheld.specs.Refusing.{ReadingRule, DueRule, CleaningRule, KeepingRule}
use Rattle.reading.specs.declared.Listing.{Listing as CodeListing}

-- a number that an entry never gives
never : {A B : Type 0} {ks : List ℕ} {o : Answer A} (x : Refusal) → is_in (numbered x).number ks ≡ false → Ends ks o
    → B ↔ (o ≡ refused (numbered x)) → B ↔ ⊥
never x h e (f, g) = ((λ b. never-refused (numbered x) h e (f b)), (λ z. absurd z))

-- ---- reading

-- of what is read, and of what is due
answer-refused : (o : Answer Listing) (room after : Room) (r : Result CodeListing Refusal) → AnswerIs o room after r → (x : Refusal)
    → (r ≡ Err x) ↔ (o ≡ refused (numbered x))
unfolding read_is told
answer-refused o room after r c x = (
  (λ e. told-refused o (numbered x) (sym c.answer ∙ ap read_is e)),
  (λ e. read_is-alone r (Err x) (c.answer ∙ ap told e)),
)

module _ (s q : Bytes) (asked : Asked) (room after : Room) (r : Result CodeListing Refusal) (c : ReadIs s q asked room after r) where
  pub read-refused : (x : Refusal) → (r ≡ Err x) ↔ (reading (length room) s q asked ≡ refused (numbered x))
  read-refused = answer-refused (reading (length room) s q asked) room after r c

  pub reading-refuses : (x : Refusal) → (r ≡ Err x) ↔ ReadingRule (length room) s q asked x
  unfolding numbered is_in
  reading-refuses RoomTooShort = Iff.trans (read-refused RoomTooShort) (reading-exactly (length room) s q asked).no-1
  reading-refuses BundleMalformed = Iff.trans (read-refused BundleMalformed) (reading-exactly (length room) s q asked).no-2
  reading-refuses VersionTooLarge = Iff.trans (read-refused VersionTooLarge) (reading-exactly (length room) s q asked).no-3
  reading-refuses NoVersionZero = Iff.trans (read-refused NoVersionZero) (reading-exactly (length room) s q asked).no-4
  reading-refuses NotKept = Iff.trans (read-refused NotKept) (reading-exactly (length room) s q asked).no-5
  reading-refuses (Malformed e l) = Iff.trans (read-refused (Malformed e l)) ((reading-exactly (length room) s q asked).no-6 e l)
  reading-refuses (TooManyLive e l) = Iff.trans (read-refused (TooManyLive e l)) ((reading-exactly (length room) s q asked).no-7 e l)
  reading-refuses ReaderTooHigh = Iff.trans (read-refused ReaderTooHigh) (reading-exactly (length room) s q asked).no-8
  reading-refuses UnknownFeature = Iff.trans (read-refused UnknownFeature) (reading-exactly (length room) s q asked).no_9
  reading-refuses QueryMalformed = Iff.trans (read-refused QueryMalformed) (reading-exactly (length room) s q asked).no-10
  reading-refuses NoSuchColumn = Iff.trans (read-refused NoSuchColumn) (reading-exactly (length room) s q asked).no-11
  reading-refuses NotWritable = never NotWritable refl (reading-ends (length room) s q asked) (read-refused NotWritable)
  reading-refuses CheckpointDisagrees = never CheckpointDisagrees refl (reading-ends (length room) s q asked) (read-refused CheckpointDisagrees)
  reading-refuses StateMalformed = never StateMalformed refl (reading-ends (length room) s q asked) (read-refused StateMalformed)
  reading-refuses TooManyManifests = never TooManyManifests refl (reading-ends (length room) s q asked) (read-refused TooManyManifests)
  reading-refuses ListRefused = never ListRefused refl (reading-ends (length room) s q asked) (read-refused ListRefused)
  reading-refuses OutputTooShort = never OutputTooShort refl (reading-ends (length room) s q asked) (read-refused OutputTooShort)
  reading-refuses ValueOutOfRange = Iff.trans (read-refused ValueOutOfRange) (reading-exactly (length room) s q asked).no-18
  reading-refuses ContainerMalformed = never ContainerMalformed refl (reading-ends (length room) s q asked) (read-refused ContainerMalformed)
  reading-refuses OtherSchema = never OtherSchema refl (reading-ends (length room) s q asked) (read-refused OtherSchema)
  reading-refuses (ForeignKeys e l) = Iff.trans (read-refused (ForeignKeys e l)) ((reading-exactly (length room) s q asked).no-21 e l)

-- ---- the files due for a second merge

module _ (s : Bytes) (time : ℕ) (room after : Room) (r : Result CodeListing Refusal) (c : DueIs s time room after r) where
  due-refused : (x : Refusal) → (r ≡ Err x) ↔ (due (length room) s the_latest time ≡ refused (numbered x))
  due-refused = answer-refused (due (length room) s the_latest time) room after r c

  due-read : (x : Refusal) → (r ≡ Err x) ↔ (reading (length room) s (ascii "[]") the_latest ≡ refused (numbered x))
  due-read x = Iff.trans (due-refused x) (due-refuses-exactly (length room) s the_latest time (numbered x))

  asked-so : ReadingExactly (length room) s (ascii "[]") the_latest
  asked-so = reading-exactly (length room) s (ascii "[]") the_latest

  pub due-refuses : (x : Refusal) → (r ≡ Err x) ↔ DueRule (length room) s x
  unfolding numbered is_in
  due-refuses RoomTooShort = Iff.trans (due-read RoomTooShort) asked-so.no-1
  due-refuses BundleMalformed = Iff.trans (due-read BundleMalformed) asked-so.no-2
  due-refuses VersionTooLarge = Iff.trans (due-read VersionTooLarge) asked-so.no-3
  due-refuses NoVersionZero = Iff.trans (due-read NoVersionZero) asked-so.no-4
  due-refuses NotKept = never NotKept refl (due-ends (length room) s time) (due-refused NotKept)
  due-refuses (Malformed e l) = Iff.trans (due-read (Malformed e l)) (asked-so.no-6 e l)
  due-refuses (TooManyLive e l) = Iff.trans (due-read (TooManyLive e l)) (asked-so.no-7 e l)
  due-refuses ReaderTooHigh = Iff.trans (due-read ReaderTooHigh) asked-so.no-8
  due-refuses UnknownFeature = Iff.trans (due-read UnknownFeature) asked-so.no_9
  due-refuses QueryMalformed = never QueryMalformed refl (due-ends (length room) s time) (due-refused QueryMalformed)
  due-refuses NoSuchColumn = never NoSuchColumn refl (due-ends (length room) s time) (due-refused NoSuchColumn)
  due-refuses NotWritable = never NotWritable refl (due-ends (length room) s time) (due-refused NotWritable)
  due-refuses CheckpointDisagrees = never CheckpointDisagrees refl (due-ends (length room) s time) (due-refused CheckpointDisagrees)
  due-refuses StateMalformed = never StateMalformed refl (due-ends (length room) s time) (due-refused StateMalformed)
  due-refuses TooManyManifests = never TooManyManifests refl (due-ends (length room) s time) (due-refused TooManyManifests)
  due-refuses ListRefused = never ListRefused refl (due-ends (length room) s time) (due-refused ListRefused)
  due-refuses OutputTooShort = never OutputTooShort refl (due-ends (length room) s time) (due-refused OutputTooShort)
  due-refuses ValueOutOfRange = never ValueOutOfRange refl (due-ends (length room) s time) (due-refused ValueOutOfRange)
  due-refuses ContainerMalformed = never ContainerMalformed refl (due-ends (length room) s time) (due-refused ContainerMalformed)
  due-refuses OtherSchema = never OtherSchema refl (due-ends (length room) s time) (due-refused OtherSchema)
  due-refuses (ForeignKeys e l) = Iff.trans (due-read (ForeignKeys e l)) (asked-so.no-21 e l)

-- ---- cleaning

module _
    (s : Bytes)
    (now retention : ℕ)
    (room room' one one' two two' : Room)
    (r : Result ℕ Refusal)
    (c : CleanIs s now retention room room' one one' two two' r)
  where
    clean-refused : (x : Refusal) → (r ≡ Err x) ↔ (cleaning (lent room one two) s now retention ≡ refused (numbered x))
    unfolding cleaned_is counted
    clean-refused x = (
      (λ e. counted-refused (cleaning (lent room one two) s now retention) (numbered x) (sym c.answer ∙ ap cleaned_is e)),
      (λ e. (clean-alone s now retention room room' room' one one' one' two two' two' r (Err x) c
          (record { answer = sym (ap counted e); names = c.names; first = c.first; second = c.second })).0),
    )

    pub cleaning-refuses : (x : Refusal) → (r ≡ Err x) ↔ CleaningRule (lent room one two) s x
    unfolding numbered is_in
    cleaning-refuses RoomTooShort = Iff.trans (clean-refused RoomTooShort) (cleaning-exactly (lent room one two) s now retention).no-1
    cleaning-refuses BundleMalformed = Iff.trans (clean-refused BundleMalformed) (cleaning-exactly (lent room one two) s now retention).no-2
    cleaning-refuses VersionTooLarge = Iff.trans (clean-refused VersionTooLarge) (cleaning-exactly (lent room one two) s now retention).no-3
    cleaning-refuses NoVersionZero = Iff.trans (clean-refused NoVersionZero) (cleaning-exactly (lent room one two) s now retention).no-4
    cleaning-refuses NotKept = never NotKept refl (cleaning-ends (lent room one two) s now retention) (clean-refused NotKept)
    cleaning-refuses (Malformed e l) = Iff.trans (clean-refused (Malformed e l)) ((cleaning-exactly (lent room one two) s now retention).no-6 e l)
    cleaning-refuses (TooManyLive e l) = Iff.trans (clean-refused (TooManyLive e l)) ((cleaning-exactly (lent room one two) s now retention).no-7 e l)
    cleaning-refuses ReaderTooHigh = Iff.trans (clean-refused ReaderTooHigh) (cleaning-exactly (lent room one two) s now retention).no-8
    cleaning-refuses UnknownFeature = Iff.trans (clean-refused UnknownFeature) (cleaning-exactly (lent room one two) s now retention).no_9
    cleaning-refuses QueryMalformed = never QueryMalformed refl (cleaning-ends (lent room one two) s now retention) (clean-refused QueryMalformed)
    cleaning-refuses NoSuchColumn = never NoSuchColumn refl (cleaning-ends (lent room one two) s now retention) (clean-refused NoSuchColumn)
    cleaning-refuses NotWritable = Iff.trans (clean-refused NotWritable) (cleaning-exactly (lent room one two) s now retention).no-12
    cleaning-refuses CheckpointDisagrees = Iff.trans (clean-refused CheckpointDisagrees) (cleaning-exactly (lent room one two) s now retention).no-13
    cleaning-refuses StateMalformed = never StateMalformed refl (cleaning-ends (lent room one two) s now retention) (clean-refused StateMalformed)
    cleaning-refuses TooManyManifests = never TooManyManifests refl (cleaning-ends (lent room one two) s now retention) (clean-refused TooManyManifests)
    cleaning-refuses ListRefused = never ListRefused refl (cleaning-ends (lent room one two) s now retention) (clean-refused ListRefused)
    cleaning-refuses OutputTooShort = never OutputTooShort refl (cleaning-ends (lent room one two) s now retention) (clean-refused OutputTooShort)
    cleaning-refuses ValueOutOfRange = never ValueOutOfRange refl (cleaning-ends (lent room one two) s now retention) (clean-refused ValueOutOfRange)
    cleaning-refuses ContainerMalformed = never ContainerMalformed refl (cleaning-ends (lent room one two) s now retention) (clean-refused ContainerMalformed)
    cleaning-refuses OtherSchema = never OtherSchema refl (cleaning-ends (lent room one two) s now retention) (clean-refused OtherSchema)
    cleaning-refuses (ForeignKeys e l) = Iff.trans (clean-refused (ForeignKeys e l)) ((cleaning-exactly (lent room one two) s now retention).no-21 e l)

-- ---- keeping

module _ (state q : Bytes) (room after : Room) (r : Result ℕ Refusal) (c : KeepIs state q room after r) where
  keep-refused : (x : Refusal) → (r ≡ Err x) ↔ (keeping (length room) state q ≡ refused (numbered x))
  unfolding kept_is counted
  keep-refused x = (
    (λ e. counted-refused (keeping (length room) state q) (numbered x) (sym c.answer ∙ ap kept_is e)),
    (λ e. (keep-alone state q room after after r (Err x) c (record { answer = sym (ap counted e); holds = c.holds })).0),
  )

  pub keeping-refuses : (x : Refusal) → (r ≡ Err x) ↔ KeepingRule (length room) state q x
  unfolding numbered is_in
  keeping-refuses RoomTooShort = Iff.trans (keep-refused RoomTooShort) (keeping-exactly (length room) state q).no-1
  keeping-refuses BundleMalformed = never BundleMalformed refl (keeping-ends (length room) state q) (keep-refused BundleMalformed)
  keeping-refuses VersionTooLarge = never VersionTooLarge refl (keeping-ends (length room) state q) (keep-refused VersionTooLarge)
  keeping-refuses NoVersionZero = never NoVersionZero refl (keeping-ends (length room) state q) (keep-refused NoVersionZero)
  keeping-refuses NotKept = never NotKept refl (keeping-ends (length room) state q) (keep-refused NotKept)
  keeping-refuses (Malformed e l) = never (Malformed e l) refl (keeping-ends (length room) state q) (keep-refused (Malformed e l))
  keeping-refuses (TooManyLive e l) = never (TooManyLive e l) refl (keeping-ends (length room) state q) (keep-refused (TooManyLive e l))
  keeping-refuses ReaderTooHigh = never ReaderTooHigh refl (keeping-ends (length room) state q) (keep-refused ReaderTooHigh)
  keeping-refuses UnknownFeature = never UnknownFeature refl (keeping-ends (length room) state q) (keep-refused UnknownFeature)
  keeping-refuses QueryMalformed = Iff.trans (keep-refused QueryMalformed) (keeping-exactly (length room) state q).no-10
  keeping-refuses NoSuchColumn = never NoSuchColumn refl (keeping-ends (length room) state q) (keep-refused NoSuchColumn)
  keeping-refuses NotWritable = never NotWritable refl (keeping-ends (length room) state q) (keep-refused NotWritable)
  keeping-refuses CheckpointDisagrees = never CheckpointDisagrees refl (keeping-ends (length room) state q) (keep-refused CheckpointDisagrees)
  keeping-refuses StateMalformed = Iff.trans (keep-refused StateMalformed) (keeping-exactly (length room) state q).no-14
  keeping-refuses TooManyManifests = Iff.trans (keep-refused TooManyManifests) (keeping-exactly (length room) state q).no-15
  keeping-refuses ListRefused = never ListRefused refl (keeping-ends (length room) state q) (keep-refused ListRefused)
  keeping-refuses OutputTooShort = never OutputTooShort refl (keeping-ends (length room) state q) (keep-refused OutputTooShort)
  keeping-refuses ValueOutOfRange = never ValueOutOfRange refl (keeping-ends (length room) state q) (keep-refused ValueOutOfRange)
  keeping-refuses ContainerMalformed = never ContainerMalformed refl (keeping-ends (length room) state q) (keep-refused ContainerMalformed)
  keeping-refuses OtherSchema = never OtherSchema refl (keeping-ends (length room) state q) (keep-refused OtherSchema)
  keeping-refuses (ForeignKeys e l) = never (ForeignKeys e l) refl (keeping-ends (length room) state q) (keep-refused (ForeignKeys e l))
