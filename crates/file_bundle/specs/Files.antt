-- The files of a bundle by their number, and what is left of a bundle behind the entries that were passed.
use Rattle.std.specs.Prelude.{◌≡◌, Bool, true, false, ◌&&◌, List, [], ◌∷◌, ℕ, suc, ◌+◌, ◌*◌, ◌-◌, eqb, drop, get_or}
use Rattle.std.specs.Prelude.{Option, None, Some}
use Rattle.rules.specs.Bytes.{Bytes, is_some, order, is_less}
use Rattle.rules.specs.Bundle.{Entry, File, entries, ascending, files_from, bundle}

-- ---- the files

unfoldable pub files_or : Option (List File) → List File
files_or None = []
files_or (Some fs) = fs

-- the files of a bundle; none where it is malformed
unfoldable pub files_in : Bytes → List File
files_in s = files_or (bundle s)

-- what stands where there is no file
unfoldable pub no_file : File
no_file = record { entry = 0; name = []; start = 0; time = 0; body = [] }

-- file number k of the bundle s
unfoldable pub file_in : Bytes → ℕ → File
file_in s k = get_or (files_in s) k no_file

-- ---- a name

-- how many bytes stand before the first zero
unfoldable pub name_size : Bytes → ℕ
name_size [] = 0
name_size (b ∷ bs) = elim (eqb b 0) [ true ↦ 0 | false ↦ suc (name_size bs) ]

-- there is no zero among the n bytes from i on
abbrev pub Filled : Bytes → (i n : ℕ) → Type 0
Filled p i n = name_size (drop i p) ≡ n + name_size (drop (i + n) p)

-- ---- what is left

-- the first name is less than the next, where there is a next
unfoldable pub first_two : List Entry → Bool
first_two [] = true
first_two (a ∷ []) = true
first_two (a ∷ b ∷ es) = is_less (order a.padded b.padded)

-- the entries of the bundle s, which has n, from number k on
unfoldable pub left : Bytes → (n k : ℕ) → List Entry
left s n k = entries (n - k) (drop (4 + 112 * k) s)

-- they ascend, and their bodies, from place `at` on, fill the bundle
unfoldable pub left_fits : Bytes → (n k at : ℕ) → Bool
left_fits s n k at = ascending (left s n k) && is_some (files_from k at (left s n k) (drop at s))
