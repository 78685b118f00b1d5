-- Laws of rows that lie flat in numbers, over any width and layout: from numbers to rows and back.
use mathlib.Core.Path.{◌≡◌, refl, sym, ap, ◌∙◌}
use Prim.Native.Nat.{ℕ, zero, suc, ◌+◌, ◌-◌, ◌*◌, ◌≤◌, ◌<◌}
use native.Mathlib.Nat.{le_of_suc-le-suc, not-suc-le-zero, suc-mul, zero-mul, add_comm, zero-add, suc-add, sub-zero, suc-sub-suc}
use native.Mathlib.Omega.{arith}
use mathlib.Core.List.{List, [], ◌∷◌, ◌++◌, map, append_assoc}
use lib.ListN.{length, take, drop, get_or, length-append, length-drop, take-append-drop}
use lib.Seq.{take-add, drop-cons, drop-drop, drop_at}
use Rattle.facts.specs.Rows.{flat, rows_of, Layout, reads}

-- ---- rows laid flat

pub flat_append : {A : Type 0} (cells : A → List ℕ) (xs ys : List A) → flat cells (xs ++ ys) ≡ flat cells xs ++ flat cells ys
unfolding flat
flat_append cells [] ys = refl
flat_append cells (x ∷ xs) ys = rw (flat_append cells xs ys, append_assoc (cells x) (flat cells xs) (flat cells ys))

-- rows of one kind laid as rows of another
pub flat_map : {A B : Type 0} (cells : B → List ℕ) (f : A → B) (xs : List A) → flat cells (map f xs) ≡ flat (λ (x : A). cells (f x)) xs
unfolding flat
flat_map cells f [] = refl
flat_map cells f (x ∷ xs) = rw (flat_map cells f xs)

-- numbers read one by one are the numbers that lie there: what a layout owes in `forth`
pub take-reads : (n : ℕ) (t : List ℕ) → n ≤ length t → take n t ≡ reads 0 n t
unfolding reads
take-reads n t h = go n 0 (omega arith)
  where
    go : (n i : ℕ) → i + n ≤ length t → take n (drop i t) ≡ reads i n t
    go zero i h = refl
    go (suc n) i h = rw (drop-cons t i 0 (omega arith), go n (suc i) (omega arith))

-- ---- the rows of a table

module _ {A : Type 0} (w : ℕ) (row : List ℕ → A) where
  pub length-rows_of : (n : ℕ) (t : List ℕ) → length (rows_of w row n t) ≡ n
  unfolding rows_of
  length-rows_of zero t = refl
  length-rows_of (suc n) t = ap suc (length-rows_of n (drop w t))

  pub take-rows_of : (k n : ℕ) (t : List ℕ) → k ≤ n → take k (rows_of w row n t) ≡ rows_of w row k t
  unfolding rows_of
  take-rows_of zero n t h = refl
  take-rows_of (suc k) zero t h = absurd (not-suc-le-zero h)
  take-rows_of (suc k) (suc n) t h = rw (take-rows_of k n (drop w t) (le_of_suc-le-suc h))

  pub drop-rows_of : (k n : ℕ) (t : List ℕ) → k ≤ n → drop k (rows_of w row n t) ≡ rows_of w row (n - k) (drop (k * w) t)
  unfolding rows_of
  drop-rows_of zero n t h = rw (sub-zero, zero-mul)
  drop-rows_of (suc k) zero t h = absurd (not-suc-le-zero h)
  drop-rows_of (suc k) (suc n) t h =
      drop-rows_of k n (drop w t) (le_of_suc-le-suc h)
      ∙ rw (suc-sub-suc, drop-drop, suc-mul, add_comm w (k * w))

  -- row k, read from its numbers
  pub get_d-rows_of : (n k : ℕ) (d : A) (t : List ℕ) → k < n → get_or (rows_of w row n t) k d ≡ row (drop (k * w) t)
  unfolding rows_of
  get_d-rows_of zero k d t h = absurd (not-suc-le-zero h)
  get_d-rows_of (suc n) zero d t h = rw zero-mul
  get_d-rows_of (suc n) (suc k) d t h = get_d-rows_of n k d (drop w t) (le_of_suc-le-suc h) ∙ rw (drop-drop, suc-mul, add_comm w (k * w))

  -- n rows and m more
  pub rows_of-append : (n m : ℕ) (t : List ℕ) → rows_of w row (n + m) t ≡ rows_of w row n t ++ rows_of w row m (drop (n * w) t)
  unfolding rows_of
  rows_of-append zero m t = rw (zero-add, zero-mul)
  rows_of-append (suc n) m t = rw (suc-add, rows_of-append n m (drop w t), drop-drop, suc-mul, add_comm w (n * w))

  pub rows_of-snoc : (n : ℕ) (t : List ℕ) → rows_of w row (n + 1) t ≡ rows_of w row n t ++ (row (drop (n * w) t) ∷ [])
  unfolding rows_of
  rows_of-snoc n t = rows_of-append n 1 t

module _ {A : Type 0} {w : ℕ} {cells : A → List ℕ} {row : List ℕ → A} (L : Layout w cells row) where
  pub length-flat : (rs : List A) → length (flat cells rs) ≡ length rs * w
  unfolding flat
  length-flat [] = rw zero-mul
  length-flat (r ∷ rs) = rw (length-append, L.wide r, length-flat rs, suc-mul) (add_comm w (length rs * w))

  -- ---- from numbers to rows and back

  pub flat-rows_of : (n : ℕ) (t : List ℕ) → n * w ≤ length t → flat cells (rows_of w row n t) ≡ take (n * w) t
  unfolding rows_of flat
  flat-rows_of zero t h = rw zero-mul
  flat-rows_of (suc n) t h =
      let l : n * w + w ≤ length t = rw suc-mul at h in
      let k : n * w ≤ length (drop w t) = simp length-drop (omega arith) in
      rw (L.forth t (omega arith), flat-rows_of n (drop w t) k, suc-mul, add_comm (n * w) w, take-add)

  pub rows_of-flat : (rs : List A) (rest : List ℕ) (n : ℕ) → length rs ≡ n → rows_of w row n (flat cells rs ++ rest) ≡ rs
  unfolding rows_of flat
  rows_of-flat rs rest n e = rw (← e) (go rs)
    where
      go : (rs : List A) → rows_of w row (length rs) (flat cells rs ++ rest) ≡ rs
      go [] = refl
      go (r ∷ rs) =
          let more : List ℕ = flat cells rs ++ rest in
          rw (append_assoc (cells r) (flat cells rs) rest, L.back r more, drop_at (cells r) more w (L.wide r), go rs)

  -- a table is its rows and what lies behind them
  pub rows_split : (n : ℕ) (t : List ℕ) → n * w ≤ length t → t ≡ flat cells (rows_of w row n t) ++ drop (n * w) t
  rows_split n t h = rw (flat-rows_of n t h) (sym (take-append-drop (n * w) t))

  -- rows are known by their numbers
  pub rows_of-same : (n : ℕ) (t u : List ℕ) → n * w ≤ length t → take (n * w) t ≡ take (n * w) u → rows_of w row n t ≡ rows_of w row n u
  rows_of-same n t u h e =
      sym (rw (flat-rows_of n t h, e, take-append-drop (n * w) u) at (rows_of-flat (rows_of w row n t) (drop (n * w) u) n (length-rows_of w row n t)))
