-- Demand 2 of reading and of keeping manifests: each refusal is given when its rule says so, and only then.
use Rattle.std.specs.Prelude.{◌≡◌, ◌⊎◌, ◌↔◌, List, [], ◌∷◌, map, ℕ, ◌≤◌, ◌<◌, length}
use Rattle.std.specs.Prelude.{None, Some}
use Rattle.rules.specs.Bytes.{Bytes}
use Rattle.rules.specs.Bundle.{File, bundle}
use Rattle.rules.specs.Names.{too_large, name_of}
use Rattle.rules.specs.Actions.{Facts, Protocol}
use Rattle.rules.specs.Live.{Row}
use Rattle.rules.specs.History.{State}
use Rattle.rules.specs.Starts.{Log, log_of, Way, way_to}
use Rattle.rules.specs.Gate.{known_reader, reader_names, writable}
use Rattle.rules.specs.Query.{out_of_range, number_of, as_number, Condition, column_of, query}
use Rattle.rules.specs.Picking.{value_at, picked}
use Rattle.rules.specs.Manifests.{Manifest, manifests, most_manifests, kept_from}
use Rattle.rules.specs.Rooms.{rows_room, kept_room}
use Rattle.rules.specs.Reading.{Asked, version_asked, Listing, state_by, reading}
use Rattle.rules.specs.Keeping.{keeping}
use Rattle.rules.specs.Refusals.{accepted, refused, room_too_short, bundle_malformed, version_too_large, no_version_zero, not_kept, malformed}
use Rattle.rules.specs.Refusals.{foreign_keys, too_many_live, reader_too_high, unknown_feature, query_malformed, no_such_column}
use Rattle.rules.specs.Refusals.{value_out_of_range, state_malformed, too_many_manifests}
use Rattle.demands.specs.Reaching.{There, NoStart}
use Rattle.demands.specs.Met.{Unknown, Met}

-- ---- the paper's words

-- a version in a name is too large
abbrev pub SomeTooLarge : List File → Type 0
SomeTooLarge [] = ⊥
SomeTooLarge (f ∷ fs) = (name_of f.name ≡ too_large) ⊎ SomeTooLarge fs

-- minReaderVersion at most 3, reader features all among the four
abbrev pub Readable : Protocol → Type 0
Readable p = (p.min_reader_version ≤ known_reader) × (Unknown reader_names p.reader_features → ⊥)

-- under a condition that reads numbers, the file's value has the shape of a number and is beyond the ends of the range
abbrev pub OutOf : Condition → Facts → Type 0
OutOf c f = (c.kind ≡ as_number) × ((x : Bytes) × (value_at c.column f.partition_values ≡ Some (Some x)) × (number_of x ≡ out_of_range))

abbrev pub AnyOutOf : List Condition → Facts → Type 0
AnyOutOf [] f = ⊥
AnyOutOf (c ∷ cs) f = OutOf c f ⊎ AnyOutOf cs f

-- of any of the files, picked or not
abbrev pub SomeOutOf : List Condition → List Row → Type 0
SomeOutOf cs [] = ⊥
SomeOutOf cs (r ∷ rs) = AnyOutOf cs r.facts ⊎ SomeOutOf cs rs

-- ---- reading, as far as it has come

-- the room is long enough, the query and the bundle are well formed, no version is too large
pub record Opened (room : ℕ) (s q : Bytes) : Type 0 where
  pub cs : List Condition
  pub fs : List File
  pub long : rows_room ≤ room
  pub query-read : query q ≡ Some cs
  pub bundle-read : bundle s ≡ Some fs
  pub none-large : SomeTooLarge fs → ⊥

module _ {room : ℕ} {s q : Bytes} (asked : Asked) (o : Opened room s q) where
  abbrev pub log_in : Log
  log_in = log_of o.fs

  abbrev pub version_in : ℕ
  version_in = version_asked asked log_in

-- version file 0 is there, and a start reaches the version asked for
pub record Reached (room : ℕ) (s q : Bytes) (asked : Asked) : Type 0 where
  pub opened : Opened room s q
  pub zero : File
  pub way : Way
  pub zero-there : (log_in asked opened).version_file 0 ≡ Some zero
  pub way-there : way_to (log_in asked opened) (version_in asked opened) ≡ Some way

-- no line met is refused: there is a state
pub record Read (room : ℕ) (s q : Bytes) (asked : Asked) : Type 0 where
  pub opened : Opened room s q
  pub state : State
  pub state-read : state_by (log_in asked opened) (way_to (log_in asked opened) (version_in asked opened)) ≡ accepted state

module _ {room : ℕ} {s q : Bytes} {asked : Asked} (r : Read room s q asked) where
  abbrev pub columns_asked : List Bytes
  columns_asked = map column_of r.opened.cs

  abbrev pub answer_of : Listing
  answer_of = record {
    version = version_in asked r.opened;
    table = r.state.table;
    in_force = r.state.in_force;
    can_write = writable r.state.in_force;
    rows = picked r.opened.cs r.state.live;
  }

-- ---- reading

pub record ReadingExactly (room : ℕ) (s q : Bytes) (asked : Asked) : Type 0 where
  pub no-1 : (reading room s q asked ≡ refused room_too_short) ↔ (room < rows_room)
  pub no-10 : (reading room s q asked ≡ refused query_malformed) ↔ ((rows_room ≤ room) × (query q ≡ None))
  pub no-2 : (reading room s q asked ≡ refused bundle_malformed) ↔ ((rows_room ≤ room) × There (query q) × (bundle s ≡ None))
  pub no-3 : (reading room s q asked ≡ refused version_too_large)
      ↔ ((rows_room ≤ room) × There (query q) × ((fs : List File) × (bundle s ≡ Some fs) × SomeTooLarge fs))
  pub no-4 : (reading room s q asked ≡ refused no_version_zero) ↔ ((o : Opened room s q) × ((log_in asked o).version_file 0 ≡ None))
  pub no-5 : (reading room s q asked ≡ refused not_kept)
      ↔ ((o : Opened room s q) × There ((log_in asked o).version_file 0) × NoStart (log_in asked o) (version_in asked o))
  pub no-6 : (e l : ℕ) → (reading room s q asked ≡ refused (malformed e l)) ↔ ((r : Reached room s q asked) × Met r.zero r.way (malformed e l))
  pub no-21 : (e l : ℕ) → (reading room s q asked ≡ refused (foreign_keys e l)) ↔ ((r : Reached room s q asked) × Met r.zero r.way (foreign_keys e l))
  pub no-7 : (e l : ℕ) → (reading room s q asked ≡ refused (too_many_live e l)) ↔ ((r : Reached room s q asked) × Met r.zero r.way (too_many_live e l))
  pub no-8 : (reading room s q asked ≡ refused reader_too_high) ↔ ((r : Read room s q asked) × (known_reader < r.state.in_force.min_reader_version))
  pub no_9 : (reading room s q asked ≡ refused unknown_feature)
      ↔ ((r : Read room s q asked) × (r.state.in_force.min_reader_version ≤ known_reader) × Unknown reader_names r.state.in_force.reader_features)
  pub no-11 : (reading room s q asked ≡ refused no_such_column)
      ↔ ((r : Read room s q asked) × Readable r.state.in_force × Unknown r.state.table.partition_columns (columns_asked r))
  pub no-18 : (reading room s q asked ≡ refused value_out_of_range)
      ↔ ((r : Read room s q asked) × Readable r.state.in_force × (Unknown r.state.table.partition_columns (columns_asked r) → ⊥)
      × SomeOutOf r.opened.cs r.state.live)
  pub no-0 : (l : Listing) → (reading room s q asked ≡ accepted l)
      ↔ ((r : Read room s q asked) × Readable r.state.in_force × (Unknown r.state.table.partition_columns (columns_asked r) → ⊥)
      × (SomeOutOf r.opened.cs r.state.live → ⊥) × (answer_of r ≡ l))

abbrev pub ReadingRefusesExactly : Type 0
ReadingRefusesExactly = (room : ℕ) (s q : Bytes) (asked : Asked) → ReadingExactly room s q asked

-- ---- keeping

pub record KeepingExactly (room : ℕ) (state q : Bytes) : Type 0 where
  pub no-1 : (keeping room state q ≡ refused room_too_short) ↔ (room < kept_room)
  pub no-10 : (keeping room state q ≡ refused query_malformed) ↔ ((kept_room ≤ room) × (query q ≡ None))
  pub no-14 : (keeping room state q ≡ refused state_malformed) ↔ ((kept_room ≤ room) × There (query q) × (manifests state ≡ None))
  pub no-15 : (keeping room state q ≡ refused too_many_manifests)
      ↔ ((kept_room ≤ room) × There (query q) × ((ms : List Manifest) × (manifests state ≡ Some ms) × (most_manifests < length ms)))
  pub no-0 : (ks : List ℕ) → (keeping room state q ≡ accepted ks)
      ↔ ((kept_room ≤ room)
      × ((cs : List Condition) × (query q ≡ Some cs)
      × ((ms : List Manifest) × (manifests state ≡ Some ms) × (length ms ≤ most_manifests) × (kept_from 0 cs ms ≡ ks))))

abbrev pub KeepingRefusesExactly : Type 0
KeepingRefusesExactly = (room : ℕ) (state q : Bytes) → KeepingExactly room state q
