-- Reading a bundle at a version, or at the latest, with a query and a lent room.
use Rattle.std.specs.Prelude.{Bool, not, List, map, ℕ, leb, length}
use Rattle.std.specs.Prelude.{Option}
use Rattle.rules.specs.Bytes.{Bytes, all_among}
use Rattle.rules.specs.Bundle.{bundle}
use Rattle.rules.specs.Names.{any_too_large}
use Rattle.rules.specs.Actions.{MetaData, Protocol}
use Rattle.rules.specs.Live.{most_live, Row}
use Rattle.rules.specs.History.{State, read_zero}
use Rattle.rules.specs.Starts.{Log, log_of, Way, way_to, history_to, follow}
use Rattle.rules.specs.Marker.{latest}
use Rattle.rules.specs.Gate.{gate, writable}
use Rattle.rules.specs.Query.{Condition, column_of, query}
use Rattle.rules.specs.Picking.{picked, in_range_all}
use Rattle.rules.specs.Rooms.{Room, rows_room, leaves, rows_numbers}
use Rattle.rules.specs.Refusals.{Answer, accepted, refused, ◌>>=◌, or_refuse, require, room_too_short, bundle_malformed}
use Rattle.rules.specs.Refusals.{version_too_large, no_version_zero, not_kept, query_malformed, no_such_column, value_out_of_range}

pub data Asked : Type 0 where
  the_latest : Asked
  the_version : ℕ → Asked

-- the rows are those of the picked files; their number is the row count
pub record Listing : Type 0 where
  pub version : ℕ
  pub table : MetaData
  pub in_force : Protocol
  pub can_write : Bool
  pub rows : List Row

-- the answer gives version, row count, protocol numbers, writable
pub record Told : Type 0 where
  pub version : ℕ
  pub count : ℕ
  pub reader : ℕ
  pub writer : ℕ
  pub can_write : Bool

unfoldable pub told : Answer Listing → Answer Told
told (accepted l) = accepted (record {
  version = l.version;
  count = length l.rows;
  reader = l.in_force.min_reader_version;
  writer = l.in_force.min_writer_version;
  can_write = l.can_write;
})
told (refused r) = refused r

unfoldable pub version_asked : Asked → Log → ℕ
version_asked the_latest log = latest log
version_asked (the_version v) log = v

-- refusals 4 and 5, then 6, 21 or 7 by first line met, with at most `limit` live after a line: version 0 is always read, first
unfoldable pub state_within : (limit : ℕ) → Log → Option Way → Answer State
state_within limit log way = do
  f ← or_refuse no_version_zero (log.version_file 0)
  w ← or_refuse not_kept way
  z ← read_zero f
  follow limit z w

abbrev pub state_by : Log → Option Way → Answer State
state_by log way = state_within most_live log way

-- refusals 8, 9, 11 and 18: what a state at version v answers
unfoldable pub listing : List Condition → ℕ → State → Answer Listing
listing cs v st = do
  _ ← gate st.in_force
  _ ← require no_such_column (all_among st.table.partition_columns (map column_of cs))
  _ ← require value_out_of_range (in_range_all cs st.live)
  accepted (record { version = v; table = st.table; in_force = st.in_force; can_write = writable st.in_force; rows = picked cs st.live })

-- what the log's files answer at version v, come to by `way`
unfoldable pub listing_within : (limit : ℕ) → List Condition → Log → ℕ → Option Way → Answer Listing
listing_within limit cs log v way = do
  st ← state_within limit log way
  listing cs v st

abbrev pub listing_by : List Condition → Log → ℕ → Option Way → Answer Listing
listing_by cs log v way = listing_within most_live cs log v way

unfoldable pub listing_at : List Condition → Log → ℕ → Answer Listing
listing_at cs log v = listing_by cs log v (way_to log v)

-- what the full history answers: version files 0 to v, one after the other
unfoldable pub history_listing : List Condition → Log → ℕ → Answer Listing
history_listing cs log v = listing_by cs log v (history_to log v)

-- refusals 1, 10, 2, 3, 4, 5, then 6, 21 or 7 by first line met, 8, 9, 11, 18; `room` is how many u64 are lent
unfoldable pub reading : (room : ℕ) → (s q : Bytes) → Asked → Answer Listing
reading room s q asked = do
  _ ← require room_too_short (leb rows_room room)
  cs ← or_refuse query_malformed (query q)
  fs ← or_refuse bundle_malformed (bundle s)
  _ ← require version_too_large (not (any_too_large fs))
  listing_at cs (log_of fs) (version_asked asked (log_of fs))

-- what a lent room holds afterwards
unfoldable pub room_after_reading : Answer Listing → Room → Room
room_after_reading answer room = leaves rows_room (λ l. rows_numbers l.rows) answer room
