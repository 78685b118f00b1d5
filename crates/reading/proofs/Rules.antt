-- The rule of reading, by what was read: one law for each answer, in the paper's order.
use mathlib.Core.Path.{◌≡◌, sym, ap, ◌∙◌}
use mathlib.Core.Bool.{Bool, true, false, not}
use Rattle.std.specs.Prelude.{None, Some}
use mathlib.Core.List.{List, map}
use Prim.Native.Nat.{ℕ, ◌≤◌, ◌<◌}
use borrow.Author.Tests.{le-leb, lt-leb}
use Rattle.rules.specs.Bytes.{Bytes, all_among}
use Rattle.rules.specs.Bundle.{File, bundle}
use Rattle.rules.specs.Names.{any_too_large}
use Rattle.rules.specs.Gate.{gate, writable}
use Rattle.rules.specs.Query.{Condition, column_of, query}
use Rattle.rules.specs.Picking.{picked, in_range_all}
use Rattle.rules.specs.Rooms.{rows_room}
use Rattle.rules.specs.Refusals.{Refusal, Answer, accepted, refused, ◌>>=◌, require, room_too_short}
use Rattle.rules.specs.Refusals.{query_malformed, bundle_malformed, version_too_large, no_such_column, value_out_of_range}
use Rattle.rules.specs.History.{State}
use Rattle.rules.specs.Starts.{Log, log_of, way_to}
use Rattle.rules.specs.Marker.{latest}
use Rattle.rules.specs.Reading.{Asked, Listing, version_asked, state_by, listing, listing_within, listing_at, reading}
use Rattle.file_bundle.specs.Files.{files_or, files_in}
use Rattle.file_names.specs.declared.Version.{Version}
use Rattle.reading.specs.Answers.{asked_is, answering}
use Rattle.std.specs.Prelude.{Option}

-- ---- what is asked

module _ (version : Option Version) (log : Log) where
  pub asked-latest : version ≡ None → version_asked (asked_is version) log ≡ latest log
  unfolding asked_is version_asked
  asked-latest e = ap (λ (a : Option Version). version_asked (asked_is a) log) e

  pub asked-at : (v : Version) → version ≡ Some v → version_asked (asked_is version) log ≡ v.0
  unfolding asked_is version_asked
  asked-at v e = ap (λ (a : Option Version). version_asked (asked_is a) log) e

-- ---- the entry

module _ (room : ℕ) (src q : Bytes) (asked : Asked) where
  pub reading-short : room < 6144 → reading room src q asked ≡ refused room_too_short
  unfolding reading rows_room
  reading-short h = rw (reading, lt-leb 6144 room h)

  module _ (h : 6144 ≤ room) where
    pub reading-unasked : query q ≡ None → reading room src q asked ≡ refused query_malformed
    unfolding reading rows_room
    reading-unasked e = rw (reading, le-leb 6144 room h, e)

    module _ {cs : List Condition} (e : query q ≡ Some cs) where
      pub reading-unopened : bundle src ≡ None → reading room src q asked ≡ refused bundle_malformed
      unfolding reading rows_room
      reading-unopened f = rw (reading, le-leb 6144 room h, e, f)

      pub reading-opened : {fs : List File} → bundle src ≡ Some fs → reading room src q asked ≡ answering cs (files_in src) asked
      unfolding reading rows_room answering files_in files_or
      reading-opened f = rw (reading, answering, files_in, le-leb 6144 room h, e, f)

-- ---- the files

module _ (cs : List Condition) (fs : List File) (asked : Asked) where
  pub answering-large : any_too_large fs ≡ true → answering cs fs asked ≡ refused version_too_large
  unfolding answering
  answering-large e = ap (λ (b : Bool). require version_too_large (not b) >>= (λ _. listing_at cs (log_of fs) (version_asked asked (log_of fs)))) e

  pub answering-version : any_too_large fs ≡ false → (v : ℕ) → version_asked asked (log_of fs) ≡ v → answering cs fs asked ≡ listing_at cs (log_of fs) v
  unfolding answering
  answering-version e v f =
      ap (λ (b : Bool). require version_too_large (not b) >>= (λ _. listing_at cs (log_of fs) (version_asked asked (log_of fs)))) e
      ∙ ap (listing_at cs (log_of fs)) f

-- ---- a version

module _ (cs : List Condition) (log : Log) (v : ℕ) where
  pub listing_at-state : (st : State) → state_by log (way_to log v) ≡ accepted st → listing_at cs log v ≡ listing cs v st
  unfolding listing_at listing_within
  listing_at-state st e = ap (λ (a : Answer State). a >>= (λ st. listing cs v st)) e

  pub listing_at-refused : (r : Refusal) → state_by log (way_to log v) ≡ refused r → listing_at cs log v ≡ refused r
  unfolding listing_at listing_within
  listing_at-refused r e = ap (λ (a : Answer State). a >>= (λ st. listing cs v st)) e

-- the latest, where v is that version
pub listing_at-latest : (cs : List Condition) (log : Log) (v : ℕ) (st : State) → v ≡ latest log → state_by log (way_to log (latest log)) ≡ accepted st
    → listing_at cs log (latest log) ≡ listing cs v st
listing_at-latest cs log v st q e = listing_at-state cs log (latest log) st e ∙ ap (λ (n : ℕ). listing cs n st) (sym q)

-- ---- a state

module _ (cs : List Condition) (v : ℕ) (st : State) where
  -- what a state answers where nothing is refused
  abbrev pub listed : Listing
  listed = record { version = v; table = st.table; in_force = st.in_force; can_write = writable st.in_force; rows = picked cs st.live }

  pub listing-ungated : (r : Refusal) → gate st.in_force ≡ refused r → listing cs v st ≡ refused r
  unfolding listing
  listing-ungated r g = rw (listing, g)

  module _ (g : gate st.in_force ≡ accepted tt) where
    pub listing-columns : all_among st.table.partition_columns (map column_of cs) ≡ false → listing cs v st ≡ refused no_such_column
    unfolding listing
    listing-columns e = rw (listing, g, e)

    module _ (e : all_among st.table.partition_columns (map column_of cs) ≡ true) where
      pub listing-range : in_range_all cs st.live ≡ false → listing cs v st ≡ refused value_out_of_range
      unfolding listing
      listing-range f = rw (listing, g, e, f)

      pub listing-listed : in_range_all cs st.live ≡ true → listing cs v st ≡ accepted listed
      unfolding listing
      listing-listed f = rw (listing, g, e, f)
