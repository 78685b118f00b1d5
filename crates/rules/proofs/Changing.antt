-- What changing the one at a key does to a live list: its keys and their order stay, look-up, the place of the key, and the same through a map.
use mathlib.Core.Path.{◌≡◌, refl, sym, ap, ◌∙◌}
use mathlib.Core.Logic.{◌⊎◌, inl, inr}
use mathlib.Core.Bool.{false}
use Rattle.std.specs.Prelude.{Some}
use mathlib.Core.List.{List, [], ◌∷◌, map}
use Prim.Native.Nat.{ℕ, zero, suc, ◌≤◌, ◌<◌}
use native.Mathlib.Nat.{le_of_suc-le-suc, not-suc-le-zero}
use lib.ListN.{length, get_or, set}
use Rattle.facts.specs.Lists.{All}
use Rattle.rules.specs.Bytes.{Bytes, order, holds}
use Rattle.rules.specs.Live.{change, change_if}
use Rattle.rules.specs.Keyed.{Below, Ascends, lookup, Bracket}
use Rattle.rules.proofs.Tests.{apart, true-not-false}
use Rattle.rules.proofs.Order.{eq-same, ne_same, same_or_not, order-less-ne}
use Rattle.rules.proofs.Holding.{holds-head, holds-past}
use Rattle.rules.proofs.Live.{lookup-here, lookup-past}
use Rattle.rules.proofs.Searching.{head-below, bracket-held}

module _ {A : Type 0} (key : A → Bytes) (k : Bytes) (f : A → A) where
  -- ---- at the head

  module _ (x : A) (xs : List A) where
    pub change-here : k ≡ key x → change key k f (x ∷ xs) ≡ f x ∷ xs
    unfolding change change_if
    change-here e = rw (eq-same e, change)

    pub change-past : (k ≡ key x → ⊥) → change key k f (x ∷ xs) ≡ x ∷ change key k f xs
    unfolding change change_if
    change-past h = rw (ne_same k (key x) h, change)

  -- ---- where the key is not

  pub change-none : (xs : List A) → holds k (map key xs) ≡ false → change key k f xs ≡ xs
  unfolding change
  change-none [] h = refl
  change-none (x ∷ xs) h = go (change-none xs) (same_or_not k (key x))
    where
      go : (holds k (map key xs) ≡ false → change key k f xs ≡ xs) → (k ≡ key x) ⊎ (k ≡ key x → ⊥) → change key k f (x ∷ xs) ≡ x ∷ xs
      go ih (inl e) = absurd (true-not-false (holds-head k (key x) (map key xs) e) h)
      go ih (inr n) = change-past x xs n ∙ ap (λ (l : List A). x ∷ l) (ih (sym (holds-past k (key x) (map key xs) n) ∙ h))

  pub bracket-change : (xs : List A) (d : A) (lo hi : ℕ) → Bracket key k xs d lo hi → hi ≤ lo → change key k f xs ≡ xs
  bracket-change xs d lo hi b end = change-none xs (bracket-held key k xs d lo hi b end)

  -- ---- at the place m of the key

  pub change-found : (xs : List A) (m : ℕ) (d : A) → Ascends key xs → m < length xs → key (get_or xs m d) ≡ k
      → change key k f xs ≡ set xs m (f (get_or xs m d))
  change-found [] m d s l e = absurd (not-suc-le-zero l)
  change-found (x ∷ xs) zero d s l e = change-here x xs (sym e)
  change-found (x ∷ xs) (suc m) d s l e =
      change-past x xs (λ p. order-less-ne (key x) k (head-below key k x xs m d s (le_of_suc-le-suc l) e) (sym p))
      ∙ ap (λ (t : List A). x ∷ t) (change-found xs m d s.1 (le_of_suc-le-suc l) e)

  -- ---- length

  pub length-change : (xs : List A) → length (change key k f xs) ≡ length xs
  unfolding change
  length-change [] = refl
  length-change (x ∷ xs) = go (length-change xs) (same_or_not k (key x))
    where
      go : length (change key k f xs) ≡ length xs → (k ≡ key x) ⊎ (k ≡ key x → ⊥) → length (change key k f (x ∷ xs)) ≡ suc (length xs)
      go ih (inl e) = ap length (change-here x xs e)
      go ih (inr n) = ap length (change-past x xs n) ∙ ap suc ih

  -- ---- a change that keeps what holds of each

  pub All-change : (P : A → Type 0) (xs : List A) → All P xs → ((x : A) → P x → P (f x)) → All P (change key k f xs)
  unfolding change All
  All-change P [] h p = tt
  All-change P (x ∷ xs) h p = go (All-change P xs h.1 p) (same_or_not k (key x))
    where
      go : All P (change key k f xs) → (k ≡ key x) ⊎ (k ≡ key x → ⊥) → All P (change key k f (x ∷ xs))
      go ih (inl e) = rw (change-here x xs e) (p x h.0, h.1)
      go ih (inr n) = rw (change-past x xs n) (h.0, ih)

  -- ---- a change that keeps the key

  module _ (keeps : (x : A) → key (f x) ≡ key x) where
    pub keys-change : (xs : List A) → map key (change key k f xs) ≡ map key xs
    unfolding change
    keys-change [] = refl
    keys-change (x ∷ xs) = go (keys-change xs) (same_or_not k (key x))
      where
        go : map key (change key k f xs) ≡ map key xs → (k ≡ key x) ⊎ (k ≡ key x → ⊥) → map key (change key k f (x ∷ xs)) ≡ key x ∷ map key xs
        go ih (inl e) = ap (map key) (change-here x xs e) ∙ ap (λ (y : Bytes). y ∷ map key xs) (keeps x)
        go ih (inr n) = ap (map key) (change-past x xs n) ∙ ap (λ (ys : List Bytes). key x ∷ ys) ih

    pub ascends-change : (xs : List A) → Ascends key xs → Ascends key (change key k f xs)
    unfolding change All
    ascends-change [] s = tt
    ascends-change (x ∷ xs) s = go (ascends-change xs s.1) (same_or_not k (key x))
      where
        below : (xs : List A) → All (Below key x) xs → All (Below key (f x)) xs
        below [] h = tt
        below (y ∷ ys) h = (ap (λ (z : Bytes). order z (key y)) (keeps x) ∙ h.0, below ys h.1)

        go : Ascends key (change key k f xs) → (k ≡ key x) ⊎ (k ≡ key x → ⊥) → Ascends key (change key k f (x ∷ xs))
        go ih (inl e) = rw (change-here x xs e) (below xs s.0, s.1)
        go ih (inr n) =
            rw (change-past x xs n) (All-change (Below key x) xs s.0 (λ y h. ap (λ (z : Bytes). order (key x) z) (keeps y) ∙ h), ih)

    -- the one at the key is changed, if there
    pub lookup-change : (xs : List A) (r : A) → lookup key k xs ≡ Some r → lookup key k (change key k f xs) ≡ Some (f r)
    unfolding change lookup
    lookup-change [] r h = apart (cc)
    lookup-change (x ∷ xs) r h = go (lookup-change xs r) (same_or_not k (key x))
      where
        go : (lookup key k xs ≡ Some r → lookup key k (change key k f xs) ≡ Some (f r)) → (k ≡ key x) ⊎ (k ≡ key x → ⊥)
            → lookup key k (change key k f (x ∷ xs)) ≡ Some (f r)
        go ih (inl e) =
            let q : Some x ≡ Some r = sym (lookup-here key k x xs e) ∙ h in
            let p : x ≡ r = cc in
            ap (lookup key k) (change-here x xs e) ∙ lookup-here key k (f x) xs (e ∙ sym (keeps x)) ∙ ap (λ (y : A). Some (f y)) p
        go ih (inr n) =
            ap (lookup key k) (change-past x xs n) ∙ lookup-past key k x (change key k f xs) n ∙ ih (sym (lookup-past key k x xs n) ∙ h)

    pub lookup-change-other : (j : Bytes) (xs : List A) → (j ≡ k → ⊥) → lookup key j (change key k f xs) ≡ lookup key j xs
    unfolding change
    lookup-change-other j [] n = refl
    lookup-change-other j (x ∷ xs) n = go (lookup-change-other j xs n) (same_or_not k (key x)) (same_or_not j (key x))
      where
        go : lookup key j (change key k f xs) ≡ lookup key j xs → (k ≡ key x) ⊎ (k ≡ key x → ⊥) → (j ≡ key x) ⊎ (j ≡ key x → ⊥)
            → lookup key j (change key k f (x ∷ xs)) ≡ lookup key j (x ∷ xs)
        go ih (inl e) c =
            let p : j ≡ key x → ⊥ = λ q. n (q ∙ sym e) in
            ap (lookup key j) (change-here x xs e) ∙ lookup-past key j (f x) xs (λ q. p (q ∙ keeps x)) ∙ sym (lookup-past key j x xs p)
        go ih (inr m) (inl p) =
            ap (lookup key j) (change-past x xs m) ∙ lookup-here key j x (change key k f xs) p ∙ sym (lookup-here key j x xs p)
        go ih (inr m) (inr p) =
            ap (lookup key j) (change-past x xs m) ∙ lookup-past key j x (change key k f xs) p ∙ ih ∙ sym (lookup-past key j x xs p)

-- ---- through a map that keeps the keys of the things at hand, and under which one change is the other

module _ {A B : Type 0} (key : A → Bytes) (key' : B → Bytes) (g : A → B) (k : Bytes) (f : A → A) (f' : B → B) (fits : (x : A) → g (f x) ≡ f' (g x)) where
  pub change-map : (xs : List A) → All (λ (x : A). key x ≡ key' (g x)) xs → map g (change key k f xs) ≡ change key' k f' (map g xs)
  unfolding change All
  change-map [] h = refl
  change-map (x ∷ xs) h = go (change-map xs h.1) h.0 (same_or_not k (key x))
    where
      go : map g (change key k f xs) ≡ change key' k f' (map g xs) → key x ≡ key' (g x) → (k ≡ key x) ⊎ (k ≡ key x → ⊥)
          → map g (change key k f (x ∷ xs)) ≡ change key' k f' (g x ∷ map g xs)
      go ih kx (inl e) =
          ap (map g) (change-here key k f x xs e)
          ∙ ap (λ (y : B). y ∷ map g xs) (fits x)
          ∙ sym (change-here key' k f' (g x) (map g xs) (e ∙ kx))
      go ih kx (inr n) =
          ap (map g) (change-past key k f x xs n)
          ∙ ap (λ (l : List B). g x ∷ l) ih
          ∙ sym (change-past key' k f' (g x) (map g xs) (λ p. n (p ∙ sym kx)))
