-- A table of rows that lies flat in a list of numbers, each row as wide as the next. The width and the kind of row are
-- arguments, so that one law serves tables of any width, in slices of u32 and of u64.
use Rattle.std.specs.Prelude.{ℕ, zero, suc, ◌+◌, ◌≤◌, ◌≡◌, List, [], ◌∷◌, ◌++◌, length, take, drop, get_or}

-- the numbers of the rows rs, one row after another; `cells` gives the numbers of one
unfoldable pub flat : {A : Type 0} → (A → List ℕ) → List A → List ℕ
flat cells [] = []
flat cells (r ∷ rs) = cells r ++ flat cells rs

-- the first n rows of t, each w numbers wide; `row` reads the row that a list begins with
unfoldable pub rows_of : {A : Type 0} → ℕ → (List ℕ → A) → ℕ → List ℕ → List A
rows_of w row zero t = []
rows_of w row (suc n) t = row t ∷ rows_of w row n (drop w t)

-- how a row lies in w numbers: what is written is read back, and what is read was written
pub record Layout {A : Type 0} (w : ℕ) (cells : A → List ℕ) (row : List ℕ → A) : Type 0 where
  pub wide : (r : A) → length (cells r) ≡ w
  pub back : (r : A) (t : List ℕ) → row (cells r ++ t) ≡ r
  pub forth : (t : List ℕ) → w ≤ length t → cells (row t) ≡ take w t

-- n numbers of t, each read by itself, from place i on: a row read field by field
unfoldable pub reads : ℕ → ℕ → List ℕ → List ℕ
reads i zero t = []
reads i (suc n) t = get_or t i 0 ∷ reads (suc i) n t

module _ {A : Type 0} where
  -- r becomes the element at place k; those from k on stand one later
  unfoldable pub insert_at : ℕ → A → List A → List A
  insert_at k r l = take k l ++ r ∷ drop k l

  -- the element at place k goes; those behind it stand one earlier
  unfoldable pub remove_at : ℕ → List A → List A
  remove_at k l = take k l ++ drop (k + 1) l
