-- Demand 1: every entry takes any bundle, query, version, time and lent room, and ends with an answer or a numbered refusal, one of those
-- that the paper lists for it. Room that is too short is left untouched; after any other refusal the first numbers of each room,
-- as many as the paper states, are zero; the numbers past them and the room's length do not change.
use Rattle.std.specs.Prelude.{◌≡◌, List, [], ◌∷◌, ◌++◌, ℕ, ◌-◌, length, take, drop, replicate}
use Rattle.rules.specs.Bytes.{Bytes}
use Rattle.rules.specs.Rooms.{Room, rows_room, kept_room, names_room, rows_numbers}
use Rattle.rules.specs.Reading.{Asked, the_latest, Listing, reading, room_after_reading}
use Rattle.rules.specs.Due.{due}
use Rattle.rules.specs.Keeping.{keeping, room_after_keeping}
use Rattle.rules.specs.Cleaning.{Lent, cleaning, names_after_cleaning, table_after_cleaning}
use Rattle.rules.specs.Refusals.{Refusal, Answer, accepted, refused}
use Rattle.demands.specs.Removed.{In}

-- ---- an answer or a numbered refusal

-- one of these numbers; 6, 7 and 21 name entry and line, all else in a refusal is zero
pub record OneOf (numbers : List ℕ) (r : Refusal) : Type 0 where
  pub listed : In r.number numbers
  pub else-zero : (r.number ≡ 6 → ⊥) → (r.number ≡ 7 → ⊥) → (r.number ≡ 21 → ⊥) → (r.entry ≡ 0) × (r.line ≡ 0)

pub data Ends {A : Type 0} (numbers : List ℕ) : Answer A → Type 0 where
  answered : (a : A) → Ends numbers (accepted a)
  refused-by : (r : Refusal) → OneOf numbers r → Ends numbers (refused r)

-- by number and the latest
abbrev pub ReadingEnds : Type 0
ReadingEnds = (room : ℕ) (s q : Bytes) (asked : Asked) → Ends (1 ∷ 10 ∷ 2 ∷ 3 ∷ 4 ∷ 5 ∷ 6 ∷ 21 ∷ 7 ∷ 8 ∷ 9 ∷ 11 ∷ 18 ∷ []) (reading room s q asked)

-- the files due for a second merge, at the latest version; it has no query, and the latest is always kept
abbrev pub DueEnds : Type 0
DueEnds = (room : ℕ) (s : Bytes) (time : ℕ) → Ends (1 ∷ 2 ∷ 3 ∷ 4 ∷ 6 ∷ 21 ∷ 7 ∷ 8 ∷ 9 ∷ []) (due room s the_latest time)

abbrev pub KeepingEnds : Type 0
KeepingEnds = (room : ℕ) (state q : Bytes) → Ends (1 ∷ 10 ∷ 14 ∷ 15 ∷ []) (keeping room state q)

abbrev pub CleaningEnds : Type 0
CleaningEnds = (lent : Lent) (s : Bytes) (now retention : ℕ) → Ends (1 ∷ 2 ∷ 3 ∷ 4 ∷ 6 ∷ 21 ∷ 7 ∷ 8 ∷ 9 ∷ 12 ∷ 13 ∷ []) (cleaning lent s now retention)

-- ---- the rooms

-- a room of which n numbers are stated, before and after an answer: its numbers in front, then zeros
pub record RoomEnds {A : Type 0} (n : ℕ) (numbers : A → List ℕ) (answer : Answer A) (before after : Room) : Type 0 where
  pub filled : (a : A) → answer ≡ accepted a → take n after ≡ numbers a ++ replicate (n - length (numbers a)) 0
  pub untouched : (r : Refusal) → answer ≡ refused r → r.number ≡ 1 → after ≡ before
  pub zeros : (r : Refusal) → answer ≡ refused r → (r.number ≡ 1 → ⊥) → take n after ≡ replicate n 0
  pub beyond : drop n after ≡ drop n before
  pub long : length after ≡ length before

abbrev pub ReadingRoomEnds : Type 0
ReadingRoomEnds =
    (room : Room) (s q : Bytes) (asked : Asked)
    → RoomEnds rows_room (λ (l : Listing). rows_numbers l.rows) (reading (length room) s q asked) room
    (room_after_reading (reading (length room) s q asked) room)

abbrev pub DueRoomEnds : Type 0
DueRoomEnds =
    (room : Room) (s : Bytes) (asked : Asked) (time : ℕ)
    → RoomEnds rows_room (λ (l : Listing). rows_numbers l.rows) (due (length room) s asked time) room
    (room_after_reading (due (length room) s asked time) room)

abbrev pub KeepingRoomEnds : Type 0
KeepingRoomEnds =
    (room : Room) (state q : Bytes)
    → RoomEnds kept_room (λ (ks : List ℕ). ks) (keeping (length room) state q) room (room_after_keeping (keeping (length room) state q) room)

abbrev pub lengths : (names table₁ table₂ : Room) → Lent
lengths names table₁ table₂ = record { names = length names; table₁ = length table₁; table₂ = length table₂ }

-- the entries named, and the two tables, whose numbers are zero at the end whatever the answer is
pub record CleaningRooms (names table₁ table₂ : Room) (answer : Answer (List ℕ)) : Type 0 where
  pub of-names : RoomEnds names_room (λ (es : List ℕ). es) answer names (names_after_cleaning answer names)
  pub first-table : RoomEnds rows_room (λ (es : List ℕ). []) answer table₁ (table_after_cleaning answer table₁)
  pub second-table : RoomEnds rows_room (λ (es : List ℕ). []) answer table₂ (table_after_cleaning answer table₂)

abbrev pub CleaningRoomsEnd : Type 0
CleaningRoomsEnd =
    (names table₁ table₂ : Room) (s : Bytes) (now retention : ℕ)
    → CleaningRooms names table₁ table₂ (cleaning (lengths names table₁ table₂) s now retention)
