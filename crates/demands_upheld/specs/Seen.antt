-- What a caller sees of two readings: the same answer and, row by row, lines of the same facts. Positions may differ.
use Rattle.std.specs.Prelude.{◌≡◌, List, [], ◌∷◌, ℕ, ◌+◌, ◌*◌, ◌≤◌, ◌<◌, length, take, drop}
use Rattle.rules.specs.Bytes.{Bytes}
use Rattle.rules.specs.Actions.{Facts, Skip}
use Rattle.rules.specs.Rooms.{Room, rows_room, row_width}
use Rattle.rules.specs.Reading.{Asked}
use Rattle.rules.specs.Same.{SameFacts}
use Rattle.demands.specs.Showing.{IsAdd}
use Rattle.refusals.specs.Numbered.{numbered}
use Rattle.refusals.specs.declared.Refusal.{Refusal}
use Rattle.reading.specs.Answers.{ReadIs, DueIs}
use Rattle.reading.specs.declared.Listing.{Listing}
use Rattle.std.specs.Prelude.{Result, Ok, Err}

-- the six numbers of row k
abbrev pub row_in : Room → ℕ → List ℕ
row_in room k = take row_width (drop (k * row_width) room)

-- the place and the length of a line in s that is a well-formed add of the facts f; then f's size and modificationTime, and the skip count and
-- retry time k
pub record RowSays (s : Bytes) (row : List ℕ) (f : Facts) (k : Skip) : Type 0 where
  pub at : ℕ
  pub long : ℕ
  pub six : row ≡ at ∷ long ∷ f.size ∷ f.modification_time ∷ k.count ∷ k.retry_after ∷ []
  pub within : at + long ≤ length s
  pub adds : IsAdd (take long (drop at s)) f

-- two rows, of s and of t: lines of the same facts, the same skip count and retry time, and so the same numbers behind place and length
pub record SameRow (s t : Bytes) (row row' : List ℕ) : Type 0 where
  pub f : Facts
  pub g : Facts
  pub skip : Skip
  pub in-s : RowSays s row f skip
  pub in-t : RowSays t row' g skip
  pub facts : SameFacts f g
  pub numbers : drop 2 row ≡ drop 2 row'

-- the same version, row count, protocol numbers and writable, and the same rows; or both refused by the same number
pub data SameRead (s t : Bytes) (after after' : Room) : Result Listing Refusal → Result Listing Refusal → Type 0 where
  both-listed : (l : Listing) → ((k : ℕ) → k < l.rows → SameRow s t (row_in after k) (row_in after' k)) → SameRead s t after after' (Ok l) (Ok l)
  both-refused : (x y : Refusal) → (numbered x).number ≡ (numbered y).number → SameRead s t after after' (Err x) (Err y)

-- whatever the promise allows on s and on t, in rooms that are long enough
abbrev pub ReadsSame : (s t q : Bytes) → Asked → Type 0
ReadsSame s t q asked =
    (room after room' after' : Room) (r r' : Result Listing Refusal) → rows_room ≤ length room → rows_room ≤ length room'
    → ReadIs s q asked room after r → ReadIs t q asked room' after' r' → SameRead s t after after' r r'

-- the same of the files that are due at a time
abbrev pub DueSame : (s t : Bytes) → (time : ℕ) → Type 0
DueSame s t time =
    (room after room' after' : Room) (r r' : Result Listing Refusal) → rows_room ≤ length room → rows_room ≤ length room'
    → DueIs s time room after r → DueIs t time room' after' r' → SameRead s t after after' r r'
