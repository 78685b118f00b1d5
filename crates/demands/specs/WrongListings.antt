-- Wrong programs that list the due files: none of them keeps the promise of that listing.
use Rattle.std.specs.Prelude.{◌≡◌, [], ◌∷◌, ℕ, ◌<◌, length, get_or}
use Rattle.rules.specs.Bytes.{Bytes, ascii}
use Rattle.rules.specs.Rooms.{Room, row_width}
use Rattle.rules.specs.Reading.{the_latest, Told, told, reading, room_after_reading}
use Rattle.rules.specs.Due.{due}
use Rattle.rules.specs.Samples.{file, bundle_of}
use Rattle.rules.specs.Edges.{add_of, v0}
use Rattle.rules.specs.SecondMerges.{skip_with}
use Rattle.rules.specs.Refusals.{Refusal, Answer, accepted, refused}

-- ---- programs, and the promise

-- what a program answers, and what it leaves in the room
pub record Lister : Type 0 where
  pub answer : Room → (s : Bytes) → (time : ℕ) → Answer Told
  pub leaves : Room → (s : Bytes) → (time : ℕ) → Room

pub record KeepsPromise (p : Lister) : Type 0 where
  pub answers : (room : Room) (s : Bytes) (time : ℕ) → p.answer room s time ≡ told (due (length room) s the_latest time)
  pub table : (room : Room) (s : Bytes) (time : ℕ) → p.leaves room s time ≡ room_after_reading (due (length room) s the_latest time) room

-- ---- wrong

abbrev pub RefusesEverything : Lister → Type 0
RefusesEverything p = (room : Room) (s : Bytes) (time : ℕ) → (r : Refusal) × (p.answer room s time ≡ refused r)

abbrev pub ListsNone : Lister → Type 0
ListsNone p = (room : Room) (s : Bytes) (time : ℕ) (t : Told) → p.answer room s time ≡ accepted t → t.count ≡ 0

-- all live files, as reading does
abbrev pub ListsAll : Lister → Type 0
ListsAll p = (room : Room) (s : Bytes) (time : ℕ) → p.answer room s time ≡ told (reading (length room) s (ascii "[]") the_latest)

abbrev pub HeedsNoTime : Lister → Type 0
HeedsNoTime p = (room : Room) (s : Bytes) (time later : ℕ) → p.answer room s time ≡ p.answer room s later

-- the first of two rows is that of the earlier line
abbrev pub InTheOrderOfLines : Lister → Type 0
InTheOrderOfLines p = (room : Room) (s : Bytes) (time : ℕ) (t : Told) → p.answer room s time ≡ accepted t → t.count ≡ 2
    → get_or (p.leaves room s time) 0 0 < get_or (p.leaves room s time) row_width 0

-- the retry time before the skip count
abbrev pub TurnsTheTwo : Lister → Type 0
TurnsTheTwo p = (room : Room) (s : Bytes) (time : ℕ) (t : Told) → p.answer room s time ≡ accepted t
    → get_or (p.leaves room s time) 4 0 ≡ get_or (room_after_reading (due (length room) s the_latest time) room) 5 0

pub record NotWrong (p : Lister) : Type 0 where
  pub refuses : RefusesEverything p → ⊥
  pub lists-none : ListsNone p → ⊥
  pub lists-all : ListsAll p → ⊥
  pub heeds-no-time : HeedsNoTime p → ⊥
  pub in-line-order : InTheOrderOfLines p → ⊥
  pub turned : TurnsTheTwo p → ⊥

abbrev pub NoListerKeepsThePromise : Type 0
NoListerKeepsThePromise = (p : Lister) → KeepsPromise p → NotWrong p

-- ---- the bundle that tells them apart: the lines of c and b stand before that of a; a and c may be tried again from 5 on

unfoldable pub two_waiting : Bytes
two_waiting =
    bundle_of
    (v0
    ∷ file "00000000000000000001.json" 1
    (add_of "c" ∷ add_of "b" ∷ add_of "a" ∷ skip_with "'path':'c','skipCount':2,'retryAfter':5" ∷ skip_with "'path':'a','skipCount':3,'retryAfter':5" ∷ [])
    ∷ [])
