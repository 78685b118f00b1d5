-- The wrong programs that the paper lists: none of them keeps the promise of reading.
use Rattle.std.specs.Prelude.{◌≡◌, List, [], ◌∷◌, ℕ, suc, length, replicate}
use Rattle.std.specs.Prelude.{None, Some}
use Rattle.rules.specs.Bytes.{Bytes}
use Rattle.rules.specs.Bundle.{File, bundle}
use Rattle.rules.specs.Starts.{log_of, start_at}
use Rattle.rules.specs.Rooms.{Room, rows_room}
use Rattle.rules.specs.Reading.{Asked, the_version, Listing, Told, told, reading, room_after_reading}
use Rattle.rules.specs.Samples.{file, bundle_of}
use Rattle.rules.specs.Edges.{add_of, remove_of, v0}
use Rattle.rules.specs.Refusals.{Refusal, Answer, accepted, refused, not_kept}

-- ---- readers, and the promise

-- what a program answers, and what it leaves in the room
pub record Reader : Type 0 where
  pub answer : Room → (s q : Bytes) → Asked → Answer Told
  pub leaves : Room → (s q : Bytes) → Asked → Room

pub record KeepsPromise (p : Reader) : Type 0 where
  pub answers : (room : Room) (s q : Bytes) (asked : Asked) → p.answer room s q asked ≡ told (reading (length room) s q asked)
  pub table : (room : Room) (s q : Bytes) (asked : Asked) → p.leaves room s q asked ≡ room_after_reading (reading (length room) s q asked) room

-- ---- wrong

abbrev pub RefusesEverything : Reader → Type 0
RefusesEverything p = (room : Room) (s q : Bytes) (asked : Asked) → (r : Refusal) × (p.answer room s q asked ≡ refused r)

abbrev pub SaysFiveToAll : Reader → Type 0
SaysFiveToAll p = (room : Room) (s q : Bytes) (asked : Asked) → p.answer room s q asked ≡ refused not_kept

-- the three that follow may do as they like where they refuse
abbrev pub Accepts : Reader → Room → (s q : Bytes) → Asked → Type 0
Accepts p room s q asked = (t : Told) × (p.answer room s q asked ≡ accepted t)

abbrev pub SameTableForAll : Reader → Type 0
SameTableForAll p =
    (room : Room) (s t q : Bytes) (asked : Asked) → Accepts p room s q asked → Accepts p room t q asked → p.leaves room s q asked ≡ p.leaves room t q asked

abbrev pub WritesNothing : Reader → Type 0
WritesNothing p = (room : Room) (s q : Bytes) (asked : Asked) → Accepts p room s q asked → p.leaves room s q asked ≡ room

-- where no checkpoint is a start, version file 1 is applied, and those behind it are only moved past
abbrev pub NoCheckpoint : Bytes → Type 0
NoCheckpoint s = (fs : List File) → bundle s ≡ Some fs → (c : ℕ) → start_at (log_of fs) c ≡ None

abbrev pub AppliesTheFirstOnly : Reader → Type 0
AppliesTheFirstOnly p =
    (room : Room) (s q : Bytes) (v : ℕ) → NoCheckpoint s → Accepts p room s q (the_version (suc v)) → Accepts p room s q (the_version 1)
    → p.leaves room s q (the_version (suc v)) ≡ p.leaves room s q (the_version 1)

-- somewhere a count that is not the size of the picked set
pub record InventsTheCount (p : Reader) : Type 0 where
  pub room : Room
  pub s : Bytes
  pub q : Bytes
  pub asked : Asked
  pub t : Told
  pub l : Listing
  pub says : p.answer room s q asked ≡ accepted t
  pub picks : reading (length room) s q asked ≡ accepted l
  pub invents : t.count ≡ length l.rows → ⊥

-- a count that the bundle has no part in
abbrev pub SameCountForAll : Reader → Type 0
SameCountForAll p = (k : ℕ) × ((room : Room) (s q : Bytes) (asked : Asked) (t : Told) → p.answer room s q asked ≡ accepted t → t.count ≡ k)

pub record NotWrong (p : Reader) : Type 0 where
  pub refuses : RefusesEverything p → ⊥
  pub says_five : SaysFiveToAll p → ⊥
  pub same-table : SameTableForAll p → ⊥
  pub writes_nothing : WritesNothing p → ⊥
  pub first-only : AppliesTheFirstOnly p → ⊥
  pub invents : InventsTheCount p → ⊥
  pub same_count : SameCountForAll p → ⊥

abbrev pub NoneKeepsThePromise : Type 0
NoneKeepsThePromise = (p : Reader) → KeepsPromise p → NotWrong p

-- ---- the bundles that tell them apart

-- P8: remove a, add a: live
unfoldable pub removed_and_added : Bytes
removed_and_added = bundle_of (v0 ∷ file "00000000000000000001.json" 1 (remove_of "a" ∷ add_of "a" ∷ []) ∷ [])

-- P9: add a, remove a: not
unfoldable pub added_and_removed : Bytes
added_and_removed = bundle_of (v0 ∷ file "00000000000000000001.json" 1 (add_of "a" ∷ remove_of "a" ∷ []) ∷ [])

-- P9 across files
unfoldable pub removed_later : Bytes
removed_later = bundle_of (v0 ∷ file "00000000000000000001.json" 1 (add_of "a" ∷ []) ∷ file "00000000000000000002.json" 2 (remove_of "a" ∷ []) ∷ [])

-- a room of just the length, with sevens in it
unfoldable pub sevens : Room
sevens = replicate rows_room 7
