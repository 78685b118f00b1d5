-- Where a key stands in a live list, or would: what putting in and taking out do there, and a search by halves that finds it.
use mathlib.Core.Path.{◌≡◌, refl, sym, ap, ◌∙◌}
use mathlib.Core.Logic.{◌⊎◌, inl, inr}
use mathlib.Core.Bool.{false}
use Rattle.std.specs.Prelude.{None, Some}
use mathlib.Core.List.{List, [], ◌∷◌, map}
use Prim.Native.Nat.{ℕ, zero, suc, ◌+◌, ◌≤◌, ◌<◌, zero-le, suc-le-suc}
use native.Mathlib.Nat.{le_of_suc-le-suc, not-suc-le-zero, eq-or-lt_of_le, suc-add}
use native.Mathlib.Omega.{arith}
use lib.Dec.{ltb}
use lib.ListN.{length, get_or, set, length-map}
use borrow.Author.Tests.{ltb-true, ltb-false}
use Rattle.facts.specs.Rows.{insert_at, remove_at}
use Rattle.facts.proofs.Lists.{All-at, get_d_map}
use Rattle.rules.specs.Bytes.{Bytes, less, equal, more, order, holds}
use Rattle.rules.specs.Live.{put, take_out}
use Rattle.rules.specs.Keyed.{Below, Ascends, lookup, Bracket}
use Rattle.rules.proofs.Tests.{by}
use Rattle.rules.proofs.Order.{order_trans, order-trans-more, order-equal, less-more, more-less, order-less-ne, order-more-ne}
use Rattle.rules.proofs.Holding.{nowhere-holds}
use Rattle.rules.proofs.Ascending.{ascends-at}
use Rattle.rules.proofs.Live.{put-below, put-over, put-past, take_out-here, take_out-past, take_out-none, lookup-here, lookup-past, lookup-none}

module _ {A : Type 0} (key : A → Bytes) where
  -- ---- at the place m of the key

  -- it stands after the head
  pub head-below : (k : Bytes) (x : A) (xs : List A) (m : ℕ) (d : A) → Ascends key (x ∷ xs) → m < length xs → key (get_or xs m d) ≡ k → order (key x) k ≡ less
  head-below k x xs m d s l e = rw (← e) (All-at (Below key x) xs m d l s.0)

  pub put-found : (r : A) (xs : List A) (m : ℕ) (d : A) → Ascends key xs → m < length xs → key (get_or xs m d) ≡ key r → put key r xs ≡ set xs m r
  put-found r [] m d s l e = absurd (not-suc-le-zero l)
  put-found r (x ∷ xs) zero d s l e = put-over key r x xs (sym e)
  put-found r (x ∷ xs) (suc m) d s l e =
      put-past key r x xs (less-more (key x) (key r) (head-below (key r) x xs m d s (le_of_suc-le-suc l) e))
      ∙ ap (λ (t : List A). x ∷ t) (put-found r xs m d s.1 (le_of_suc-le-suc l) e)

  pub take_out-found : (k : Bytes) (xs : List A) (m : ℕ) (d : A) → Ascends key xs → m < length xs → key (get_or xs m d) ≡ k → take_out key k xs ≡ remove_at m xs
  unfolding remove_at
  take_out-found k [] m d s l e = absurd (not-suc-le-zero l)
  take_out-found k (x ∷ xs) zero d s l e = take_out-here key k x xs (sym e)
  take_out-found k (x ∷ xs) (suc m) d s l e =
      take_out-past key k x xs (λ p. order-less-ne (key x) k (head-below k x xs m d s (le_of_suc-le-suc l) e) (sym p))
      ∙ ap (λ (t : List A). x ∷ t) (take_out-found k xs m d s.1 (le_of_suc-le-suc l) e)
      ∙ rw suc-add

  pub lookup-found : (k : Bytes) (xs : List A) (m : ℕ) (d : A) → Ascends key xs → m < length xs → key (get_or xs m d) ≡ k
      → lookup key k xs ≡ Some (get_or xs m d)
  lookup-found k [] m d s l e = absurd (not-suc-le-zero l)
  lookup-found k (x ∷ xs) zero d s l e = lookup-here key k x xs (sym e)
  lookup-found k (x ∷ xs) (suc m) d s l e =
      lookup-past key k x xs (λ p. order-less-ne (key x) k (head-below k x xs m d s (le_of_suc-le-suc l) e) (sym p))
      ∙ lookup-found k xs m d s.1 (le_of_suc-le-suc l) e

-- ---- a search by halves: the keys before lo are below k, and those from hi on above

module _ {A : Type 0} (key : A → Bytes) where
  -- at the place m where the key would stand
  pub put-new : (r : A) (xs : List A) (m : ℕ) (d : A) → m ≤ length xs → ((j : ℕ) → j < m → order (key (get_or xs j d)) (key r) ≡ less)
      → ((j : ℕ) → m ≤ j → j < length xs → order (key (get_or xs j d)) (key r) ≡ more) → put key r xs ≡ insert_at m r xs
  unfolding put insert_at
  put-new r [] zero d l lo hi = refl
  put-new r [] (suc m) d l lo hi = absurd (not-suc-le-zero l)
  put-new r (x ∷ xs) zero d l lo hi = put-below key r x xs (more-less (key x) (key r) (hi zero zero-le (suc-le-suc zero-le)))
  put-new r (x ∷ xs) (suc m) d l lo hi =
      put-past key r x xs (less-more (key x) (key r) (lo zero (suc-le-suc zero-le)))
      ∙ ap (λ (t : List A). x ∷ t)
      (put-new r xs m d (le_of_suc-le-suc l) (λ j h. lo (suc j) (suc-le-suc h)) (λ j h g. hi (suc j) (suc-le-suc h) (suc-le-suc g)))

  pub nowhere-held : (k : Bytes) (xs : List A) (m : ℕ) (d : A) → ((j : ℕ) → j < m → order (key (get_or xs j d)) k ≡ less)
      → ((j : ℕ) → m ≤ j → j < length xs → order (key (get_or xs j d)) k ≡ more) → holds k (map key xs) ≡ false
  nowhere-held k xs m d lo hi = nowhere-holds k (map key xs) (λ i l e. at i (rw length-map at l) e)
    where
      at : (i : ℕ) → i < length xs → get_or (map key xs) i [] ≡ k → ⊥
      at i l e =
          let q : key (get_or xs i d) ≡ k = sym (get_d_map key xs i d [] l) ∙ e in
          by
          (ltb i m)
          (λ t. order-less-ne (key (get_or xs i d)) k (lo i (ltb-true i m t)) q)
          (λ t. order-more-ne (key (get_or xs i d)) k (hi i (ltb-false i m t) l) q)

module _ {A : Type 0} (key : A → Bytes) (k : Bytes) (xs : List A) (d : A) where
  pub bracket-start : Bracket key k xs d 0 (length xs)
  bracket-start = record {
    lo-le = omega arith;
    hi-le = omega arith;
    below = λ j h. absurd (not-suc-le-zero h);
    above = λ j h g. absurd (omega arith);
  }

  -- nothing is left between: the key is not there, and lo is its place
  module _ (lo hi : ℕ) (b : Bracket key k xs d lo hi) (end : hi ≤ lo) where
    pub bracket-held : holds k (map key xs) ≡ false
    bracket-held = nowhere-held key k xs lo d b.below (λ j l g. b.above j (omega arith) g)

    pub bracket-take_out : take_out key k xs ≡ xs
    bracket-take_out = take_out-none key k xs bracket-held

    pub bracket-lookup : lookup key k xs ≡ None
    bracket-lookup = lookup-none key k xs bracket-held

    pub bracket-put : (r : A) → key r ≡ k → put key r xs ≡ insert_at lo r xs
    bracket-put r e = put-new key r xs lo d (omega arith) (λ j l. rw e (b.below j l)) (λ j l g. rw e (b.above j (omega arith) g))

  module _ (s : Ascends key xs) (lo hi : ℕ) (b : Bracket key k xs d lo hi) (m : ℕ) (lm : lo ≤ m) (mh : m < hi) where
    -- the key at m is below k: go on above it
    pub bracket-up : order (key (get_or xs m d)) k ≡ less → Bracket key k xs d (m + 1) hi
    bracket-up e = record { lo-le = omega arith; hi-le = b.hi-le; below = below'; above = b.above }
      where
        go : (j : ℕ) → (j ≡ m) ⊎ (j < m) → order (key (get_or xs j d)) k ≡ less
        go j (inl q) = rw q e
        go j (inr l) = order_trans (key (get_or xs j d)) (key (get_or xs m d)) k (ascends-at key xs s j m d l (omega arith)) e

        below' : (j : ℕ) → j < m + 1 → order (key (get_or xs j d)) k ≡ less
        below' j l = go j (eq-or-lt_of_le (omega arith))

    -- the key at m is above k: go on below it
    pub bracket-down : order (key (get_or xs m d)) k ≡ more → Bracket key k xs d lo m
    bracket-down e = record { lo-le = lm; hi-le = omega arith; below = b.below; above = above' }
      where
        go : (j : ℕ) → j < length xs → (m ≡ j) ⊎ (m < j) → order (key (get_or xs j d)) k ≡ more
        go j g (inl q) = rw (← q) e
        go j g (inr l) =
            order-trans-more
            (key (get_or xs j d))
            (key (get_or xs m d))
            k
            (less-more (key (get_or xs m d)) (key (get_or xs j d)) (ascends-at key xs s m j d l g))
            e

        above' : (j : ℕ) → m ≤ j → j < length xs → order (key (get_or xs j d)) k ≡ more
        above' j l g = go j g (eq-or-lt_of_le l)

    -- the key at m is k: it is found
    pub bracket-hit : order (key (get_or xs m d)) k ≡ equal → (m < length xs) × (key (get_or xs m d) ≡ k)
    bracket-hit e = (omega arith, order-equal (key (get_or xs m d)) k e)
