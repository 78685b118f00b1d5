-- Lent rooms, as lists of numbers: how long they must be, and what they hold at the end, whatever the answer is.
use Rattle.std.specs.Prelude.{true, false, List, [], ◌∷◌, ◌++◌, ℕ, ◌-◌, eqb, length, drop, replicate}
use Rattle.rules.specs.Live.{Row}
use Rattle.rules.specs.Refusals.{Answer, accepted, refused}

abbrev pub Room : Type 0
Room = List ℕ

-- u64 for the rows of a reading, u32 for the manifests kept, u32 for the entries a cleaner names
unfoldable pub rows_room : ℕ
rows_room = 6_144

unfoldable pub kept_room : ℕ
kept_room = 256

unfoldable pub names_room : ℕ
names_room = 1_024

-- the first n numbers are xs and then zeros; any beyond stay
unfoldable pub filled : (n : ℕ) → List ℕ → Room → Room
filled n xs room = xs ++ (replicate (n - length xs) 0 ++ drop n room)

-- a room is untouched after refusal 1; after any other its first n numbers are zeros
unfoldable pub leaves : {A : Type 0} → (n : ℕ) → (A → List ℕ) → Answer A → Room → Room
leaves n numbers (accepted a) room = filled n (numbers a) room
leaves n numbers (refused r) room = elim (eqb r.number 1) [ true ↦ room | false ↦ filled n [] room ]

-- manifests kept and entries named: both answers give their count
unfoldable pub counted : Answer (List ℕ) → Answer ℕ
counted (accepted ns) = accepted (length ns)
counted (refused r) = refused r

-- ---- rows

-- how many numbers a row has
unfoldable pub row_width : ℕ
row_width = 6

-- position in the bundle and length of the add's line, size, modificationTime, skipCount, retryAfter
unfoldable pub row_numbers : Row → List ℕ
row_numbers r = r.at ∷ r.size ∷ r.facts.size ∷ r.facts.modification_time ∷ r.skip.count ∷ r.skip.retry_after ∷ []

unfoldable pub rows_numbers : List Row → List ℕ
rows_numbers [] = []
rows_numbers (r ∷ rs) = row_numbers r ++ rows_numbers rs
