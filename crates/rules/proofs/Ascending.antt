-- Things whose keys strictly ascend: each key before every later one, which its neighbours already show.
use mathlib.Core.Path.{◌≡◌, refl, ◌∙◌}
use mathlib.Core.Bool.{true, false}
use mathlib.Core.List.{List, [], ◌∷◌, map}
use Prim.Native.Nat.{ℕ, zero, suc, ◌<◌, zero-le, suc-le-suc}
use native.Mathlib.Nat.{le_of_suc-le-suc, not-suc-le-zero}
use lib.ListN.{length, get_or}
use Rattle.facts.specs.Lists.{All}
use Rattle.facts.proofs.Lists.{All-at, All-weaken, All-map, map-All}
use Rattle.rules.specs.Bytes.{Bytes, holds, distinct}
use Rattle.rules.specs.Keyed.{Below, Ascends}
use Rattle.rules.proofs.Order.{order_trans, order-less-ne}
use Rattle.rules.proofs.Holding.{holds-past, distinct_cons}

-- ---- ascending keys

module _ {A : Type 0} (key : A → Bytes) where
  pub ascends-at : (xs : List A) → Ascends key xs → (i j : ℕ) (d : A) → i < j → j < length xs → Below key (get_or xs i d) (get_or xs j d)
  ascends-at [] s i j d l m = absurd (not-suc-le-zero m)
  ascends-at (x ∷ xs) s i zero d l m = absurd (not-suc-le-zero l)
  ascends-at (x ∷ xs) s zero (suc j) d l m = All-at (Below key x) xs j d (le_of_suc-le-suc m) s.0
  ascends-at (x ∷ xs) s (suc i) (suc j) d l m = ascends-at xs s.1 i j d (le_of_suc-le-suc l) (le_of_suc-le-suc m)

  pub ascends-cons : (x y : A) (ys : List A) → Below key x y → Ascends key (y ∷ ys) → Ascends key (x ∷ y ∷ ys)
  unfolding All
  ascends-cons x y ys l s = ((l, All-weaken (Below key y) (Below key x) ys (λ z m. order_trans (key x) (key y) (key z) l m) s.0), s)

  -- by neighbours
  pub ascends-of : (xs : List A) (d : A) → ((j : ℕ) → suc j < length xs → Below key (get_or xs j d) (get_or xs (suc j) d)) → Ascends key xs
  unfolding All
  ascends-of [] d h = tt
  ascends-of (x ∷ []) d h = (tt, tt)
  ascends-of (x ∷ y ∷ ys) d h =
      ascends-cons x y ys (h zero (suc-le-suc (suc-le-suc zero-le))) (ascends-of (y ∷ ys) d (λ j l. h (suc j) (suc-le-suc l)))

  -- a key below all is not among them
  pub below-not-held : (x : A) (xs : List A) → All (Below key x) xs → holds (key x) (map key xs) ≡ false
  unfolding holds All
  below-not-held x [] h = refl
  below-not-held x (y ∷ ys) h = holds-past (key x) (key y) (map key ys) (order-less-ne (key x) (key y) h.0) ∙ below-not-held x ys h.1

  pub ascends-distinct : (xs : List A) → Ascends key xs → distinct (map key xs) ≡ true
  unfolding distinct
  ascends-distinct [] s = refl
  ascends-distinct (x ∷ xs) s = distinct_cons (key x) (map key xs) (below-not-held x xs s.0) ∙ ascends-distinct xs s.1

-- ---- through a map that keeps the keys

module _ {A B : Type 0} (key : A → Bytes) (key' : B → Bytes) (f : A → B) (e : (x : A) → key x ≡ key' (f x)) where
  pub ascends-map : (xs : List A) → Ascends key xs → Ascends key' (map f xs)
  ascends-map [] s = tt
  ascends-map (x ∷ xs) s = (
    All-map (Below key' (f x)) f xs (All-weaken (Below key x) (λ (y : A). Below key' (f x) (f y)) xs (λ y h. rw (e x, e y) at h) s.0),
    ascends-map xs s.1,
  )

  pub map-ascends : (xs : List A) → Ascends key' (map f xs) → Ascends key xs
  map-ascends [] s = tt
  map-ascends (x ∷ xs) s =
      (All-weaken (λ (y : A). Below key' (f x) (f y)) (Below key x) xs (λ y h. rw (e x, e y) h) (map-All (Below key' (f x)) f xs s.0), map-ascends xs s.1)
