-- Laws of writing over a list in place: what stays as it was, what a turn of a loop does, what the loop ends with.
use mathlib.Core.Path.{◌≡◌, sym, ◌∙◌}
use Prim.Native.Nat.{ℕ, suc, ◌+◌, ◌-◌, ◌≤◌, ◌<◌}
use native.Mathlib.Nat.{add-zero}
use native.Mathlib.Omega.{arith}
use mathlib.Core.List.{List, [], ◌∷◌, ◌++◌, append_assoc, append-nil}
use lib.ListN.{length, take, drop, get_or, set, replicate, length-append, length-drop, length-replicate, take-append-drop}
use lib.Seq.{take-take, length-take-le, take-append-le, drop_at, set_at, set-append_seam, drop-append_seam, append_snoc}
use Rattle.facts.specs.Parts.{part}
use Rattle.facts.specs.Moves.{put_at, stores, moved_up, moved_down, zeroed}
use Rattle.facts.proofs.Lists.{drop_here, drop-later, take-one-more, drop_past, set_past, replicate-one-more, get_d-behind, get_d-before}
use Rattle.facts.proofs.Parts.{length_part, part_none, part-cons, part-snoc}

-- ---- elements written

module _ {A : Type 0} (at : ℕ) (vs t : List A) (h : at + length vs ≤ length t) where
  pub length-put_at : length (put_at at vs t) ≡ length t
  unfolding put_at
  length-put_at = simp (length-append, length-take-le at t (omega arith), length-drop) (omega arith)

  pub take-put_at : (n : ℕ) → n ≤ at → take n (put_at at vs t) ≡ take n t
  unfolding put_at
  take-put_at n l =
      let e : length (take at t) ≡ at = length-take-le at t (omega arith) in
      take-append-le n (take at t) (vs ++ drop (at + length vs) t) (omega arith) ∙ take-take n at t l

  pub drop-put_at : (n : ℕ) → at + length vs ≤ n → drop n (put_at at vs t) ≡ drop n t
  unfolding put_at
  drop-put_at n l =
      let rest : List A = drop (at + length vs) t in
      drop-later (at + length vs) n (put_at at vs t) t l
      (drop_past (take at t) (vs ++ rest) at (length vs) (length-take-le at t (omega arith)) ∙ drop-append_seam vs rest)

module _ {A : Type 0} (at : ℕ) (vs t : List A) where
  -- one element more, behind those that are written
  pub put_at-snoc : (v : A) → at + length vs < length t → set (put_at at vs t) (at + length vs) v ≡ put_at at (vs ++ (v ∷ [])) t
  unfolding put_at
  put_at-snoc v h =
      let next : List A = drop (at + length vs + 1) t in
      let e : at + length (vs ++ (v ∷ [])) ≡ at + length vs + 1 = simp length-append (omega arith) in
      rw (
        set_past (take at t) (vs ++ drop (at + length vs) t) at (length vs) v (length-take-le at t (omega arith)),
        drop_here t (at + length vs) v h,
        set-append_seam vs (get_or t (at + length vs) v) next v,
        e,
        append_snoc vs v next,
      )

  -- one element more, before those that are written
  pub put_at-cons : (v : A) → at < length t → set (put_at (at + 1) vs t) at v ≡ put_at at (v ∷ vs) t
  unfolding put_at
  put_at-cons v h =
      let rest : List A = vs ++ drop (at + 1 + length vs) t in
      let e : at + suc (length vs) ≡ at + 1 + length vs = omega arith in
      rw (
        take-one-more t at v h,
        append_snoc (take at t) (get_or t at v) rest,
        set_at (take at t) (get_or t at v) rest v at (length-take-le at t (omega arith)),
        e,
      )

pub put_at-none : {A : Type 0} (at : ℕ) (t : List A) → put_at at [] t ≡ t
unfolding put_at
put_at-none at t = rw add-zero (take-append-drop at t)

-- two writings, the one right before the other
module _ {A : Type 0} (at : ℕ) (us vs t : List A) (h : at + length us + length vs ≤ length t) where
  pub put_at-before : put_at at us (put_at (at + length us) vs t) ≡ put_at at (us ++ vs) t
  unfolding put_at
  put_at-before =
      let front : List A = take (at + length us) t in
      let rest : List A = drop (at + length us + length vs) t in
      let n : length front ≡ at + length us = length-take-le (at + length us) t (omega arith) in
      let e : at + length (us ++ vs) ≡ at + length us + length vs = simp length-append (omega arith) in
      rw (
        take-append-le at front (vs ++ rest) (omega arith),
        take-take at (at + length us) t (omega arith),
        drop_at front (vs ++ rest) (at + length us) n,
        e,
        append_assoc us vs rest,
      )

pub put_at-one : {A : Type 0} (at : ℕ) (v : A) (t : List A) → at < length t → put_at at (v ∷ []) t ≡ set t at v
put_at-one at v t h = sym (rw (add-zero, put_at-none at t) at (put_at-snoc at [] t v (omega arith)))

-- elements stored one by one, the first at `at`, the next at `at + 1`: a row's fields in the order of its numbers
pub put_at-stores : {A : Type 0} (at : ℕ) (v : A) (vs t : List A) → at + suc (length vs) ≤ length t → stores (set t at v) at 1 vs ≡ put_at at (v ∷ vs) t
unfolding stores
put_at-stores {A} at v vs t h = rw (← put_at-one at v t (omega arith)) (go (v ∷ []) vs (omega arith))
  where
    go : (us vs : List A) → at + length us + length vs ≤ length t → stores (put_at at us t) at (length us) vs ≡ put_at at (us ++ vs) t
    go us [] l = rw append-nil
    go us (w ∷ vs) l =
        let e : length (us ++ (w ∷ [])) ≡ suc (length us) = simp length-append (omega arith) in
        rw (put_at-snoc at us t w (omega arith), ← e, ← append_snoc us w vs) (go (us ++ (w ∷ [])) vs (omega arith))

-- ---- elements moved up: the loop goes from the last down to the first

-- one element more, below those that have moved
moved_up-one-more : {A : Type 0} (at m by : ℕ) (t : List A) (d : A) → at + by + m < length t
    → set (moved_up (at + 1) m by t) (at + by) (get_or (moved_up (at + 1) m by t) at d) ≡ moved_up at (m + 1) by t
unfolding moved_up
moved_up-one-more {A} at m by t d h =
    let vs : List A = part t (at + 1) (at + 1 + m) in
    let n : length vs ≡ m = length_part t (at + 1) (at + 1 + m) (omega arith) ∙ omega arith in
    let g : get_or (put_at (at + 1 + by) vs t) at d ≡ get_or t at d =
    get_d-before (at + 1) at d (put_at (at + 1 + by) vs t) t (omega arith) (take-put_at (at + 1 + by) vs t (omega arith) (at + 1) (omega arith)) in
    let e : at + (m + 1) ≡ at + 1 + m = omega arith in
    let f : at + 1 + by ≡ at + by + 1 = omega arith in
    rw (g, e, part-cons t at (at + 1 + m) d (omega arith) (omega arith), f) (put_at-cons (at + by) vs t (get_or t at d) (omega arith))

module _ {A : Type 0} (at m by : ℕ) (t : List A) (h : at + by + m ≤ length t) where
  up-length : length (part t at (at + m)) ≡ m
  up-length = length_part t at (at + m) (omega arith) ∙ omega arith

  pub length-moved_up : length (moved_up at m by t) ≡ length t
  unfolding moved_up
  length-moved_up = length-put_at (at + by) (part t at (at + m)) t (omega (arith, up-length))

  -- the loop: i elements are left to move, and those above them have moved
  pub moved_up-start : moved_up (at + m) (m - m) by t ≡ t
  unfolding moved_up
  moved_up-start =
      let e : m - m ≡ 0 = omega arith in
      rw (e, part_none t (at + m) (at + m + 0) (omega arith)) (put_at-none (at + m + by) t)

  pub moved_up-step : (i : ℕ) (d : A) → 0 < i → i ≤ m
      → set (moved_up (at + i) (m - i) by t) (at + by + (i - 1)) (get_or (moved_up (at + i) (m - i) by t) (at + (i - 1)) d)
      ≡ moved_up (at + (i - 1)) (m - (i - 1)) by t
  moved_up-step i d l k =
      let e₁ : at + i ≡ at + (i - 1) + 1 = omega arith in
      let e₂ : m - (i - 1) ≡ m - i + 1 = omega arith in
      let e₃ : at + by + (i - 1) ≡ at + (i - 1) + by = omega arith in
      rw (e₁, e₂, e₃) (moved_up-one-more (at + (i - 1)) (m - i) by t d (omega arith))

  -- the gap that is left, written
  pub put_at-moved_up : (vs : List A) → length vs ≡ by → put_at at vs (moved_up at m by t) ≡ put_at at (vs ++ part t at (at + m)) t
  unfolding moved_up
  put_at-moved_up vs e = rw (← e) (put_at-before at vs (part t at (at + m)) t (omega (arith, up-length)))

-- ---- elements moved down: the loop goes from the first up to the last

module _ {A : Type 0} (at m by : ℕ) (t : List A) (h : at + by + m ≤ length t) where
  -- the loop: the first i elements have moved
  pub moved_down-start : moved_down at 0 by t ≡ t
  unfolding moved_down
  moved_down-start = rw (part_none t (at + by) (at + by + 0) (omega arith)) (put_at-none at t)

  pub moved_down-step : (i : ℕ) (d : A) → i < m
      → set (moved_down at i by t) (at + i) (get_or (moved_down at i by t) (at + by + i) d) ≡ moved_down at (i + 1) by t
  unfolding moved_down
  moved_down-step i d l =
      let vs : List A = part t (at + by) (at + by + i) in
      let n : length vs ≡ i = length_part t (at + by) (at + by + i) (omega arith) ∙ omega arith in
      let g : get_or (put_at at vs t) (at + by + i) d ≡ get_or t (at + by + i) d =
      get_d-behind (at + i) (at + by + i) d (put_at at vs t) t (omega arith) (drop-put_at at vs t (omega arith) (at + i) (omega arith)) in
      let e : at + by + (i + 1) ≡ at + by + i + 1 = omega arith in
      rw (g, e, part-snoc t (at + by) (at + by + i) d (omega arith) (omega arith)) (rw n at (put_at-snoc at vs t (get_or t (at + by + i) d) (omega arith)))

-- ---- zeros

module _ (a b : ℕ) (t : List ℕ) (h : a ≤ b) (l : b ≤ length t) where
  zeros-length : a + length {A = ℕ} (replicate (b - a) 0) ≡ b
  zeros-length = omega (arith, length-replicate {A = ℕ} (b - a) 0)

  -- the whole list, where its front and what lies behind the zeros are known from elsewhere
  pub zeroed-whole : (xs u : List ℕ) → take a t ≡ xs → drop b t ≡ drop b u → zeroed a b t ≡ xs ++ (replicate (b - a) 0 ++ drop b u)
  unfolding zeroed put_at
  zeroed-whole xs u e f = rw (zeros-length, e, f)

pub zeroed_start : (a : ℕ) (t : List ℕ) → zeroed a a t ≡ t
unfolding zeroed
zeroed_start a t = let e : a - a ≡ 0 = omega arith in rw e (put_at-none a t)

pub zeroed_step : (a i : ℕ) (t : List ℕ) → a ≤ i → i < length t → set (zeroed a i t) i 0 ≡ zeroed a (i + 1) t
unfolding zeroed
zeroed_step a i t h l =
    let z : List ℕ = replicate (i - a) 0 in
    let n : a + length z ≡ i = omega (arith, length-replicate {A = ℕ} (i - a) 0) in
    let e : i + 1 - a ≡ i - a + 1 = omega arith in
    rw (e, replicate-one-more {A = ℕ} (i - a) 0) (rw n at (put_at-snoc a z t 0 (omega arith)))
