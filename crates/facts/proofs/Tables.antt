-- What is written over the numbers of a table, said of its rows: rows go in, go out, are replaced or added, and what lies
-- behind the table stays. Over any width and layout.
use mathlib.Core.Path.{◌≡◌, sym, ap, ◌∙◌}
use Prim.Native.Nat.{ℕ, ◌+◌, ◌-◌, ◌*◌, ◌≤◌, ◌<◌}
use native.Mathlib.Nat.{suc-mul, add-mul, add-sub_of_le}
use native.Mathlib.Numerals.{add-one}
use native.Mathlib.Omega.{arith}
use mathlib.Core.List.{List, [], ◌∷◌, ◌++◌, map, map-append, append_assoc, append-nil}
use lib.ListN.{length, take, drop, set, replicate, length-drop, drop_of_length-le}
use Rattle.facts.specs.Parts.{part}
use Rattle.facts.specs.Rows.{flat, rows_of, Layout, insert_at}
use Rattle.facts.specs.Moves.{put_at, moved_up, zeroed}
use Rattle.facts.proofs.Parts.{part-rest}
use Rattle.facts.proofs.Rows.{flat_append, length-flat, length-rows_of, take-rows_of, drop-rows_of, rows_of-snoc, flat-rows_of, rows_of-flat, rows_of-same}
use Rattle.facts.proofs.Moves.{length-put_at, put_at-one, put_at-moved_up, zeroed-whole}

pub mul-one-more : (n w : ℕ) → (n + 1) * w ≡ n * w + w
mul-one-more n w = rw add-one (suc-mul n w)

-- j of n rows and the others, in numbers
mul-split : (w : ℕ) {j n : ℕ} → j ≤ n → j * w + (n - j) * w ≡ n * w
mul-split w {j} {n} h = sym (add-mul j (n - j) w) ∙ ap (λ (x : ℕ). x * w) (add-sub_of_le h)

module _ {A : Type 0} {w : ℕ} {cells : A → List ℕ} {row : List ℕ → A} (L : Layout w cells row) where
  -- ---- rows written

  -- where rows end that are written from row k on
  flat-end : (k : ℕ) (rs : List A) → k * w + length (flat cells rs) ≡ (k + length rs) * w
  flat-end k rs = rw (length-flat L rs) (sym (add-mul k (length rs) w))

  -- the rows from row j on, and the rows from a up to b, are parts of the numbers
  pub flat-drop : (n j : ℕ) (t : List ℕ) → j ≤ n → n * w ≤ length t → flat cells (drop j (rows_of w row n t)) ≡ part t (j * w) (n * w)
  unfolding part
  flat-drop n j t h l =
      let m : j * w + (n - j) * w ≡ n * w = mul-split w h in
      let e : n * w - j * w ≡ (n - j) * w = omega arith in
      rw (drop-rows_of w row j n t h, e) (flat-rows_of L (n - j) (drop (j * w) t) (simp length-drop (omega arith)))

  -- rows written over the numbers, from row k on
  pub put_at-flat : (n k : ℕ) (rs : List A) (t : List ℕ) → k + length rs ≤ n → n * w ≤ length t
      → put_at (k * w) (flat cells rs) t ≡ flat cells (put_at k rs (rows_of w row n t)) ++ drop (n * w) t
  unfolding put_at
  put_at-flat n k rs t h l =
      let rows : List A = rows_of w row n t in
      let m : k ≤ n = omega arith in
      rw (
        flat-end k rs,
        flat_append cells (take k rows) (rs ++ drop (k + length rs) rows),
        flat_append cells rs (drop (k + length rs) rows),
        take-rows_of w row k n t m,
        flat-rows_of L k t (omega (arith, mul-split w m)),
        flat-drop n (k + length rs) t h l,
        ← part-rest t ((k + length rs) * w) (n * w) (omega (arith, mul-split w h)),
      )
      (simp append_assoc)

  -- are rows written over the rows
  pub rows_of-put_at : (n k : ℕ) (rs : List A) (t : List ℕ) → k + length rs ≤ n → n * w ≤ length t
      → rows_of w row n (put_at (k * w) (flat cells rs) t) ≡ put_at k rs (rows_of w row n t)
  rows_of-put_at n k rs t h l =
      let m : length (put_at k rs (rows_of w row n t)) ≡ n =
      length-put_at k rs (rows_of w row n t) (rw (length-rows_of w row n t) h) ∙ length-rows_of w row n t in
      rw (put_at-flat n k rs t h l) (rows_of-flat L (put_at k rs (rows_of w row n t)) (drop (n * w) t) n m)

  -- rows written from row k to the end of the table
  pub rows_of-tail : (n k : ℕ) (rs : List A) (t : List ℕ) → k + length rs ≡ n → n * w ≤ length t
      → rows_of w row n (put_at (k * w) (flat cells rs) t) ≡ rows_of w row k t ++ rs
  unfolding put_at
  rows_of-tail n k rs t e l =
      let m : length (rows_of w row n t) ≤ k + length rs = rw (length-rows_of w row n t) (omega arith) in
      rw (take-rows_of w row k n t (omega arith), drop_of_length-le (rows_of w row n t) m, append-nil rs) at (rows_of-put_at n k rs t (omega arith) l)

  -- one row written over row k
  pub rows_of-set : (n k : ℕ) (r : A) (t : List ℕ) → k < n → n * w ≤ length t → rows_of w row n (put_at (k * w) (cells r) t) ≡ set (rows_of w row n t) k r
  unfolding flat
  rows_of-set n k r t h l =
      let e : flat cells (r ∷ []) ≡ cells r = append-nil (cells r) in
      let m : k < length (rows_of w row n t) = rw (length-rows_of w row n t) h in
      rw (e, put_at-one k r (rows_of w row n t) m) at (rows_of-put_at n k (r ∷ []) t (omega arith) l)

  -- ---- a row goes in: those from k on move up, and r is written into the gap

  module _ (n k : ℕ) (r : A) (t : List ℕ) (h : k ≤ n) (l : n * w + w ≤ length t) where
    insert-flat : put_at (k * w) (cells r) (moved_up (k * w) ((n - k) * w) w t) ≡ put_at (k * w) (flat cells (r ∷ drop k (rows_of w row n t))) t
    unfolding flat
    insert-flat =
        let m : k * w + (n - k) * w ≡ n * w = mul-split w h in
        rw (put_at-moved_up (k * w) ((n - k) * w) w t (omega arith) (cells r) (L.wide r), m, flat-drop n k t h (omega arith))

    insert-count : k + length (r ∷ drop k (rows_of w row n t)) ≡ n + 1
    insert-count = simp (length-drop, length-rows_of) (omega arith)

    pub rows_of-insert : rows_of w row (n + 1) (put_at (k * w) (cells r) (moved_up (k * w) ((n - k) * w) w t)) ≡ insert_at k r (rows_of w row n t)
    unfolding insert_at
    rows_of-insert =
        rw (insert-flat, take-rows_of w row k n t h) (rows_of-tail (n + 1) k (r ∷ drop k (rows_of w row n t)) t insert-count (rw mul-one-more l))

  -- ---- a pass over the rows in place: the first k became f of what they were, the others are as they were

  -- one row more, when t becomes u
  pub rows_of-pass : (f : A → A) (k : ℕ) (t₀ t u : List ℕ) → k * w ≤ length t → rows_of w row k t ≡ map f (rows_of w row k t₀)
      → drop (k * w) t ≡ drop (k * w) t₀
      → take (k * w) u ≡ take (k * w) t → row (drop (k * w) u) ≡ f (row (drop (k * w) t)) → rows_of w row (k + 1) u ≡ map f (rows_of w row (k + 1) t₀)
  rows_of-pass f k t₀ t u l done rest same e =
      rw (
        rows_of-snoc w row k u,
        rows_of-snoc w row k t₀,
        map-append f (rows_of w row k t₀) (row (drop (k * w) t₀) ∷ []),
        ← done,
        ← rest,
        ← rows_of-same L k t u l (sym same),
        e,
      )

  -- ---- zeros behind the rows

  -- the rows rs, then zeros up to place b, then what some list holds there
  pub zeroed-flat : (n b : ℕ) (rs : List A) (t u : List ℕ) → n * w ≤ b → b ≤ length t → rows_of w row n t ≡ rs → drop b t ≡ drop b u
      → zeroed (n * w) b t ≡ flat cells rs ++ (replicate (b - length (flat cells rs)) 0 ++ drop b u)
  zeroed-flat n b rs t u h l e f =
      let m : length (flat cells rs) ≡ n * w = rw (← e) (length-flat L (rows_of w row n t) ∙ ap (λ (x : ℕ). x * w) (length-rows_of w row n t)) in
      rw m (zeroed-whole (n * w) b t h l (flat cells rs) u (rw (← e) (sym (flat-rows_of L n t (omega arith)))) f)
