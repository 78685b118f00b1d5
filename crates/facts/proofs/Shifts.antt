-- A place opened or closed in a list by moving its elements one place, one by one: what a loop starts with, what a turn
-- does, what it ends with. The elements are a table's rows.
use Prim.Native.Nat.{ℕ, suc, ◌+◌, ◌-◌, ◌≤◌, ◌<◌}
use mathlib.Core.Path.{◌≡◌, refl, sym, ◌∙◌}
use native.Mathlib.Nat.{zero-add}
use native.Mathlib.Omega.{arith}
use mathlib.Core.List.{List, [], ◌∷◌, ◌++◌, append-nil, append_assoc}
use lib.ListN.{length, take, drop, get_or, set, length-append, length-drop, drop_of_length-le}
use lib.Seq.{take-take, take_at, length-take-le}
use Rattle.facts.specs.Parts.{part}
use Rattle.facts.specs.Rows.{insert_at, remove_at}
use Rattle.facts.specs.Moves.{put_at, moved_up, moved_down}
use Rattle.facts.proofs.Lists.{drop-take}
use Rattle.facts.proofs.Parts.{length_part, part-behind}
use Rattle.facts.proofs.Moves.{put_at-one, length-moved_up, moved_up-start, moved_up-step, put_at-moved_up, moved_down-start, moved_down-step}

-- ---- a place opened: of n elements and one more, those from j on have moved up

module _ {A : Type 0} (n : ℕ) (l : List A) (h : length l ≡ n + 1) where
  pub open-start : moved_up n (n - n) 1 l ≡ l
  open-start = rw zero-add at (moved_up-start 0 n 1 l (omega arith))

  pub open_step : (j : ℕ) (d : A) → 0 < j → j ≤ n
      → set (moved_up j (n - j) 1 l) j (get_or (moved_up j (n - j) 1 l) (j - 1) d) ≡ moved_up (j - 1) (n - (j - 1)) 1 l
  open_step j d p q =
      let e : 0 + 1 + (j - 1) ≡ j = omega arith in
      simp (e, zero-add) at (moved_up-step 0 n 1 l (omega arith) j d p q)

  pub open-end : (k : ℕ) (r : A) → k ≤ n → set (moved_up k (n - k) 1 l) k r ≡ insert_at k r (take n l)
  unfolding insert_at put_at part
  open-end k r q =
      let e : k + (n - k) ≡ n = omega arith in
      let m : length (part l k n) ≡ n - k = length_part l k n (omega arith) in
      let f : length l ≤ k + suc (length (part l k n)) = omega arith in
      let z : drop (k + suc (length (part l k n))) l ≡ [] = drop_of_length-le l f in
      sym (put_at-one k r (moved_up k (n - k) 1 l) (omega (arith, length-moved_up k (n - k) 1 l (omega arith))))
      ∙ put_at-moved_up k (n - k) 1 l (omega arith) (r ∷ []) refl
      ∙ rw (e, z, append-nil (take (n - k) (drop k l)), take-take k n l q, drop-take k n l)

-- ---- a place closed: of n elements, those behind k have moved down as far as place j

module _ {A : Type 0} (n k : ℕ) (l : List A) (h : length l ≡ n) (p : k < n) where
  pub close-start : moved_down k (k - k) 1 l ≡ l
  close-start = let e : k - k ≡ 0 = omega arith in rw e (moved_down-start k 0 1 l (omega arith))

  pub close-step : (j : ℕ) (d : A) → k ≤ j → j < n - 1
      → set (moved_down k (j - k) 1 l) j (get_or (moved_down k (j - k) 1 l) (j + 1) d) ≡ moved_down k (j + 1 - k) 1 l
  close-step j d q r =
      let e₁ : k + (j - k) ≡ j = omega arith in
      let e₂ : k + 1 + (j - k) ≡ j + 1 = omega arith in
      let e₃ : j - k + 1 ≡ j + 1 - k = omega arith in
      rw (e₁, e₂, e₃) at (moved_down-step k (n - 1 - k) 1 l (omega arith) (j - k) d (omega arith))

  pub close-end : take (n - 1) (moved_down k (n - 1 - k) 1 l) ≡ remove_at k l
  unfolding moved_down remove_at put_at
  close-end =
      let e : part l (k + 1) (k + 1 + (n - 1 - k)) ≡ drop (k + 1) l = part-behind l (k + 1) (k + 1 + (n - 1 - k)) (omega arith) in
      let rest : List A = drop (k + length (drop (k + 1) l)) l in
      let m : length (take k l ++ drop (k + 1) l) ≡ n - 1 = simp (length-append, length-take-le k l (omega arith), length-drop) (omega arith) in
      rw (e, ← append_assoc (take k l) (drop (k + 1) l) rest) (take_at (take k l ++ drop (k + 1) l) rest (n - 1) m)
