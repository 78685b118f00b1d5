-- What an answer of an entry says, and its room holds: the live files, the verdict, the files picked, the files due, the manifests kept, the
-- files named.
use Rattle.std.specs.Prelude.{◌≡◌, ◌↔◌, true, List, ◌++◌, ℕ, ◌-◌, length, take, replicate}
use Rattle.std.specs.Prelude.{Some}
use Rattle.facts.specs.Lists.{All}
use Rattle.rules.specs.Bytes.{Bytes}
use Rattle.rules.specs.Bundle.{File, bundle}
use Rattle.rules.specs.Live.{Row}
use Rattle.rules.specs.History.{State}
use Rattle.rules.specs.Starts.{log_of, way_to}
use Rattle.rules.specs.Query.{Condition, query}
use Rattle.rules.specs.Manifests.{Manifest, manifests}
use Rattle.rules.specs.Rooms.{Room, rows_room, rows_numbers}
use Rattle.rules.specs.Reading.{Asked, the_latest, version_asked}
use Rattle.rules.specs.Cleaning.{Lent}
use Rattle.rules.specs.Same.{SameState}
use Rattle.demands.specs.Exactly.{Readable}
use Rattle.demands.specs.CleaningExactly.{NotWritable, NothingToName, Begun, Compared, Names}
use Rattle.demands.specs.Replayed.{StateSays}
use Rattle.demands.specs.Places.{StandsIn}
use Rattle.demands.specs.Choosing.{Picks, Keeps}
use Rattle.demands.specs.Due.{DueOf}
use Rattle.reading.specs.declared.Listing.{Listing}

-- the state is what the lines on the way say; those chosen of its files fill the rows, each with the place of its line; the rest of the 6,144
-- are zero
pub record Lists (Chosen : (live chosen : List Row) → Type 0) (s : Bytes) (asked : Asked) (after : Room) (l : Listing) : Type 0 where
  pub fs : List File
  pub st : State
  pub rows : List Row
  pub bundle-read : bundle s ≡ Some fs
  pub version : l.version.0 ≡ version_asked asked (log_of fs)
  pub live : StateSays (log_of fs) (way_to (log_of fs) l.version.0) st
  pub chosen : Chosen st.live rows
  pub places : All (StandsIn s) rows
  pub count : l.rows ≡ length rows
  pub reader : l.reader ≡ st.in_force.min_reader_version
  pub writer : l.writer ≡ st.in_force.min_writer_version
  pub verdict : (l.writable ≡ true) ↔ (NotWritable st.in_force → ⊥)
  pub table : take rows_room after ≡ rows_numbers rows ++ replicate (rows_room - length (rows_numbers rows)) 0

-- the files that the query picks
pub record ListsExactly (s q : Bytes) (asked : Asked) (after : Room) (l : Listing) : Type 0 where
  pub cs : List Condition
  pub query-read : query q ≡ Some cs
  pub lists : Lists (Picks cs) s asked after l

-- the files of the latest version that are due at a time
abbrev pub DueExactly : (s : Bytes) → (time : ℕ) → (after : Room) → Listing → Type 0
DueExactly s time after l = Lists (DueOf time) s the_latest after l

-- the first n numbers of the room are those of the manifests kept
pub record KeepsExactly (state q : Bytes) (after : Room) (n : ℕ) : Type 0 where
  pub cs : List Condition
  pub ms : List Manifest
  pub query-read : query q ≡ Some cs
  pub state-read : manifests state ≡ Some ms
  pub keeps : Keeps cs 0 ms (take n after)
  pub count : length (take n after) ≡ n

-- there is nothing to name; or the first n numbers of the room are the entry numbers of those named
pub data NamesExactly (lent : Lent) (s : Bytes) (now retention : ℕ) (after : Room) : ℕ → Type 0 where
  nothing : (b : Begun lent s) → NothingToName (log_of b.fs) → NamesExactly lent s now retention after 0
  files : {n : ℕ} (c : Compared lent s) → Readable c.mine.in_force → (NotWritable c.mine.in_force → ⊥) → SameState c.mine c.theirs
      → Names c.comparing.c now retention c.comparing.begun.fs (take n after) → length (take n after) ≡ n
      → NamesExactly lent s now retention after n
