-- The cleaner: which version files may go.
use Rattle.std.specs.Prelude.{Bool, false, not, ◌&&◌, List, [], ◌∷◌, ℕ, ◌-◌, leb, ltb}
use Rattle.std.specs.Prelude.{Option, None, Some}
use Rattle.rules.specs.Bytes.{Bytes, keep_if}
use Rattle.rules.specs.Bundle.{File, bundle}
use Rattle.rules.specs.Names.{name_of, version_in, any_too_large}
use Rattle.rules.specs.History.{of_checkpoint, read_zero, read_file}
use Rattle.rules.specs.Starts.{log_of, Way, start_at, other_way_to, nothing_live, follow}
use Rattle.rules.specs.Marker.{marked}
use Rattle.rules.specs.Gate.{gate, writable}
use Rattle.rules.specs.Live.{most_live}
use Rattle.rules.specs.Agreement.{agree}
use Rattle.rules.specs.Rooms.{Room, rows_room, names_room, leaves}
use Rattle.rules.specs.Refusals.{Answer, accepted, ◌>>=◌, or_refuse, require, room_too_short, bundle_malformed}
use Rattle.rules.specs.Refusals.{version_too_large, no_version_zero, not_writable, checkpoint_disagrees}

-- ---- what is named

-- version files w, 0 < w < c
unfoldable pub is_between : ℕ → Option ℕ → Bool
is_between c None = false
is_between c (Some w) = ltb 0 w && ltb w c

-- now - modified > retention and now >= modified
unfoldable pub is_old : (now retention modified : ℕ) → Bool
is_old now retention modified = leb modified now && ltb retention (now - modified)

unfoldable pub may_go : (c now retention : ℕ) → File → Bool
may_go c now retention f = is_between c (version_in (name_of f.name)) && is_old now retention f.time

-- entry numbers, ascending
unfoldable pub named : (c now retention : ℕ) → List File → List ℕ
named c now retention [] = []
named c now retention (f ∷ fs) = keep_if (may_go c now retention f) f.entry (named c now retention fs)

-- ---- when

-- version 0, then the checkpoint, then the highest other start's way is read (6, 21, 7); the checkpoint's gate 8, 9, 12; then 13
unfoldable pub compared : (zero-file checkpoint : File) → Way → Answer (Unit {0})
compared zf f w = do
  z ← read_zero zf
  mine ← read_file most_live of_checkpoint f nothing_live
  theirs ← follow most_live z w
  _ ← gate mine.in_force
  _ ← require not_writable (writable mine.in_force)
  require checkpoint_disagrees (agree mine theirs)

-- the checkpoint, where it is a start, and the way of the highest other start that reaches it; if there is none, nothing is named
unfoldable pub cleaned_by : (zero-file : File) → Option File → Option Way → List ℕ → Answer (List ℕ)
cleaned_by zf None w es = accepted []
cleaned_by zf (Some f) None es = accepted []
cleaned_by zf (Some f) (Some w) es = do
  _ ← compared zf f w
  accepted es

-- no usable marker names nothing
unfoldable pub cleaned_at : Option ℕ → (zero-file : File) → (now retention : ℕ) → List File → Answer (List ℕ)
cleaned_at None zf now retention fs = accepted []
cleaned_at (Some c) zf now retention fs = cleaned_by zf (start_at (log_of fs) c) (other_way_to (log_of fs) c) (named c now retention fs)

-- rooms: how many u32 are lent for names, and u64 for each of the two reading tables
pub record Lent : Type 0 where
  pub names : ℕ
  pub table₁ : ℕ
  pub table₂ : ℕ

unfoldable pub enough : Lent → Bool
enough lent = leb names_room lent.names && (leb rows_room lent.table₁ && leb rows_room lent.table₂)

-- refusals 1 to 4, then as above
unfoldable pub cleaning : Lent → (s : Bytes) → (now retention : ℕ) → Answer (List ℕ)
cleaning lent s now retention = do
  _ ← require room_too_short (enough lent)
  fs ← or_refuse bundle_malformed (bundle s)
  _ ← require version_too_large (not (any_too_large fs))
  zf ← or_refuse no_version_zero ((log_of fs).version_file 0)
  cleaned_at (marked (log_of fs)) zf now retention fs

-- what the rooms hold afterwards: the entries named; and the tables zeros
unfoldable pub names_after_cleaning : Answer (List ℕ) → Room → Room
names_after_cleaning answer room = leaves names_room (λ es. es) answer room

unfoldable pub table_after_cleaning : Answer (List ℕ) → Room → Room
table_after_cleaning answer room = leaves rows_room (λ es. []) answer room
