-- The paper's table of refusals, by the code's cases: for each entry when it gives which. What it never gives is ⊥.
use Rattle.std.specs.Prelude.{◌≡◌, List, ℕ, ◌≤◌, ◌<◌, length}
use Rattle.std.specs.Prelude.{None, Some}
use Rattle.rules.specs.Bytes.{Bytes, ascii}
use Rattle.rules.specs.Bundle.{File, bundle}
use Rattle.rules.specs.Starts.{log_of}
use Rattle.rules.specs.Gate.{known_reader, reader_names}
use Rattle.rules.specs.Query.{query}
use Rattle.rules.specs.Manifests.{Manifest, manifests, most_manifests}
use Rattle.rules.specs.Rooms.{rows_room, kept_room}
use Rattle.rules.specs.Reading.{Asked, the_latest}
use Rattle.rules.specs.Cleaning.{Lent}
use Rattle.rules.specs.Same.{SameState}
use Rattle.rules.specs.Refusals.{malformed, too_many_live, foreign_keys}
use Rattle.demands.specs.Reaching.{There, NoStart}
use Rattle.demands.specs.Met.{Unknown, Met}
use Rattle.demands.specs.Exactly.{SomeTooLarge, SomeOutOf, Readable, Opened, log_in, version_in, Reached, Read, columns_asked}
use Rattle.demands.specs.CleaningExactly.{Enough, NotWritable as CannotWrite, Comparing, MetComparing, Compared}
use Rattle.refusals.specs.declared.Refusal.{Refusal}
use Rattle.refusals.specs.declared.Refusal.TheVariants.{RoomTooShort, BundleMalformed, VersionTooLarge, NoVersionZero, NotKept, Malformed, TooManyLive}
use Rattle.refusals.specs.declared.Refusal.TheVariants.{ReaderTooHigh, UnknownFeature, QueryMalformed, NoSuchColumn, NotWritable, CheckpointDisagrees}
use Rattle.refusals.specs.declared.Refusal.TheVariants.{StateMalformed, TooManyManifests, ListRefused, OutputTooShort, ValueOutOfRange}
use Rattle.refusals.specs.declared.Refusal.TheVariants.{ContainerMalformed, OtherSchema, ForeignKeys}

-- reading: 1, 10, 2, 3, 4, 5, then 6, 21 or 7 by first line met, 8, 9, 11, 18
abbrev pub ReadingRule : (room : ℕ) → (s q : Bytes) → Asked → Refusal → Type 0
ReadingRule room s q asked RoomTooShort = room < rows_room
ReadingRule room s q asked BundleMalformed = (rows_room ≤ room) × There (query q) × (bundle s ≡ None)
ReadingRule room s q asked VersionTooLarge = (rows_room ≤ room) × There (query q) × ((fs : List File) × (bundle s ≡ Some fs) × SomeTooLarge fs)
ReadingRule room s q asked NoVersionZero = (o : Opened room s q) × ((log_in asked o).version_file 0 ≡ None)
ReadingRule room s q asked NotKept = (o : Opened room s q) × There ((log_in asked o).version_file 0) × NoStart (log_in asked o) (version_in asked o)
ReadingRule room s q asked (Malformed e l) = (r : Reached room s q asked) × Met r.zero r.way (malformed e l)
ReadingRule room s q asked (TooManyLive e l) = (r : Reached room s q asked) × Met r.zero r.way (too_many_live e l)
ReadingRule room s q asked ReaderTooHigh = (r : Read room s q asked) × (known_reader < r.state.in_force.min_reader_version)
ReadingRule room s q asked UnknownFeature =
    (r : Read room s q asked) × (r.state.in_force.min_reader_version ≤ known_reader) × Unknown reader_names r.state.in_force.reader_features
ReadingRule room s q asked QueryMalformed = (rows_room ≤ room) × (query q ≡ None)
ReadingRule room s q asked NoSuchColumn =
    (r : Read room s q asked) × Readable r.state.in_force × Unknown r.state.table.partition_columns (columns_asked r)
ReadingRule room s q asked NotWritable = ⊥
ReadingRule room s q asked CheckpointDisagrees = ⊥
ReadingRule room s q asked StateMalformed = ⊥
ReadingRule room s q asked TooManyManifests = ⊥
ReadingRule room s q asked ListRefused = ⊥
ReadingRule room s q asked OutputTooShort = ⊥
ReadingRule room s q asked ValueOutOfRange =
    (r : Read room s q asked) × Readable r.state.in_force × (Unknown r.state.table.partition_columns (columns_asked r) → ⊥)
    × SomeOutOf r.opened.cs r.state.live
ReadingRule room s q asked ContainerMalformed = ⊥
ReadingRule room s q asked OtherSchema = ⊥
ReadingRule room s q asked (ForeignKeys e l) = (r : Reached room s q asked) × Met r.zero r.way (foreign_keys e l)

-- the files due for a second merge: 1, 2, 3, 4, then 6, 21 or 7 by first line met, 8, 9, each as in reading the latest version under the
-- query []. That query is well formed and asks for no column, and the latest version is always kept: never 10, 11, 18 or 5
abbrev pub DueRule : (room : ℕ) → (s : Bytes) → Refusal → Type 0
DueRule room s RoomTooShort = ReadingRule room s (ascii "[]") the_latest RoomTooShort
DueRule room s BundleMalformed = ReadingRule room s (ascii "[]") the_latest BundleMalformed
DueRule room s VersionTooLarge = ReadingRule room s (ascii "[]") the_latest VersionTooLarge
DueRule room s NoVersionZero = ReadingRule room s (ascii "[]") the_latest NoVersionZero
DueRule room s NotKept = ⊥
DueRule room s (Malformed e l) = ReadingRule room s (ascii "[]") the_latest (Malformed e l)
DueRule room s (TooManyLive e l) = ReadingRule room s (ascii "[]") the_latest (TooManyLive e l)
DueRule room s ReaderTooHigh = ReadingRule room s (ascii "[]") the_latest ReaderTooHigh
DueRule room s UnknownFeature = ReadingRule room s (ascii "[]") the_latest UnknownFeature
DueRule room s QueryMalformed = ⊥
DueRule room s NoSuchColumn = ⊥
DueRule room s NotWritable = ⊥
DueRule room s CheckpointDisagrees = ⊥
DueRule room s StateMalformed = ⊥
DueRule room s TooManyManifests = ⊥
DueRule room s ListRefused = ⊥
DueRule room s OutputTooShort = ⊥
DueRule room s ValueOutOfRange = ⊥
DueRule room s ContainerMalformed = ⊥
DueRule room s OtherSchema = ⊥
DueRule room s (ForeignKeys e l) = ReadingRule room s (ascii "[]") the_latest (ForeignKeys e l)

-- cleaning: 1 to 4; then 6, 21 or 7 by first line met; the checkpoint's gate 8, 9, 12; then 13
abbrev pub CleaningRule : Lent → Bytes → Refusal → Type 0
CleaningRule lent s RoomTooShort = Enough lent → ⊥
CleaningRule lent s BundleMalformed = Enough lent × (bundle s ≡ None)
CleaningRule lent s VersionTooLarge = Enough lent × ((fs : List File) × (bundle s ≡ Some fs) × SomeTooLarge fs)
CleaningRule lent s NoVersionZero =
    Enough lent × ((fs : List File) × (bundle s ≡ Some fs) × (SomeTooLarge fs → ⊥) × ((log_of fs).version_file 0 ≡ None))
CleaningRule lent s NotKept = ⊥
CleaningRule lent s (Malformed e l) = (c : Comparing lent s) × MetComparing c.begun.zero c.checkpoint c.way (malformed e l)
CleaningRule lent s (TooManyLive e l) = (c : Comparing lent s) × MetComparing c.begun.zero c.checkpoint c.way (too_many_live e l)
CleaningRule lent s ReaderTooHigh = (c : Compared lent s) × (known_reader < c.mine.in_force.min_reader_version)
CleaningRule lent s UnknownFeature =
    (c : Compared lent s) × (c.mine.in_force.min_reader_version ≤ known_reader) × Unknown reader_names c.mine.in_force.reader_features
CleaningRule lent s QueryMalformed = ⊥
CleaningRule lent s NoSuchColumn = ⊥
CleaningRule lent s NotWritable = (c : Compared lent s) × Readable c.mine.in_force × CannotWrite c.mine.in_force
CleaningRule lent s CheckpointDisagrees =
    (c : Compared lent s) × Readable c.mine.in_force × (CannotWrite c.mine.in_force → ⊥) × (SameState c.mine c.theirs → ⊥)
CleaningRule lent s StateMalformed = ⊥
CleaningRule lent s TooManyManifests = ⊥
CleaningRule lent s ListRefused = ⊥
CleaningRule lent s OutputTooShort = ⊥
CleaningRule lent s ValueOutOfRange = ⊥
CleaningRule lent s ContainerMalformed = ⊥
CleaningRule lent s OtherSchema = ⊥
CleaningRule lent s (ForeignKeys e l) = (c : Comparing lent s) × MetComparing c.begun.zero c.checkpoint c.way (foreign_keys e l)

-- manifests: 1, 10, 14, 15
abbrev pub KeepingRule : (room : ℕ) → (state q : Bytes) → Refusal → Type 0
KeepingRule room state q RoomTooShort = room < kept_room
KeepingRule room state q BundleMalformed = ⊥
KeepingRule room state q VersionTooLarge = ⊥
KeepingRule room state q NoVersionZero = ⊥
KeepingRule room state q NotKept = ⊥
KeepingRule room state q (Malformed e l) = ⊥
KeepingRule room state q (TooManyLive e l) = ⊥
KeepingRule room state q ReaderTooHigh = ⊥
KeepingRule room state q UnknownFeature = ⊥
KeepingRule room state q QueryMalformed = (kept_room ≤ room) × (query q ≡ None)
KeepingRule room state q NoSuchColumn = ⊥
KeepingRule room state q NotWritable = ⊥
KeepingRule room state q CheckpointDisagrees = ⊥
KeepingRule room state q StateMalformed = (kept_room ≤ room) × There (query q) × (manifests state ≡ None)
KeepingRule room state q TooManyManifests =
    (kept_room ≤ room) × There (query q) × ((ms : List Manifest) × (manifests state ≡ Some ms) × (most_manifests < length ms))
KeepingRule room state q ListRefused = ⊥
KeepingRule room state q OutputTooShort = ⊥
KeepingRule room state q ValueOutOfRange = ⊥
KeepingRule room state q ContainerMalformed = ⊥
KeepingRule room state q OtherSchema = ⊥
KeepingRule room state q (ForeignKeys e l) = ⊥
