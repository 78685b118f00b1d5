-- The lines of a version file or checkpoint.
use Rattle.std.specs.Prelude.{Bool, true, false, List, [], ◌∷◌, ℕ, eqb}
use Rattle.rules.specs.Bytes.{Bytes}

-- a byte in front of the first line
unfoldable pub onto : ℕ → List Bytes → List Bytes
onto b [] = (b ∷ []) ∷ []
onto b (l ∷ ls) = (b ∷ l) ∷ ls

-- each line is ended by 0x0A, which is no part of it; the last may lack it
unfoldable pub lines : Bytes → List Bytes
lines [] = []
lines (b ∷ bs) = elim (eqb b 0x0A) [ true ↦ [] ∷ lines bs | false ↦ onto b (lines bs) ]

-- a line that is not empty holds an object, or is malformed
unfoldable pub any_object : List Bytes → Bool
any_object [] = false
any_object ([] ∷ ls) = any_object ls
any_object ((b ∷ bs) ∷ ls) = true
