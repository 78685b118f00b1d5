-- What putting in and taking out do to a live list: order, length and look-up by key, and the same through a map of the rows.
use mathlib.Core.Path.{◌≡◌, refl, sym, ap, ◌∙◌}
use mathlib.Core.Logic.{◌⊎◌, inl, inr}
use mathlib.Core.Bool.{true, false}
use Rattle.std.specs.Prelude.{None, Some}
use mathlib.Core.List.{List, [], ◌∷◌, map}
use Prim.Native.Nat.{suc, ◌≤◌}
use native.Mathlib.Omega.{arith}
use lib.ListN.{length}
use Rattle.facts.specs.Lists.{All}
use Rattle.facts.proofs.Lists.{All-weaken}
use Rattle.rules.specs.Bytes.{Bytes, Order, less, equal, more, order, holds}
use Rattle.rules.specs.Live.{put, put_beside, take_out, take_if}
use Rattle.rules.specs.Keyed.{Below, Ascends, lookup}
use Rattle.rules.proofs.Tests.{apart, true-not-false}
use Rattle.rules.proofs.Order.{eq-order, order-equal, more-less, order-more-ne, eq-same, ne_same, same_or_not}
use Rattle.rules.proofs.Holding.{holds-head, holds-past}
use Rattle.rules.proofs.Ascending.{ascends-cons, below-not-held}

module _ {A : Type 0} (key : A → Bytes) where
  -- ---- at the head

  module _ (r x : A) (xs : List A) where
    pub put-below : order (key r) (key x) ≡ less → put key r (x ∷ xs) ≡ r ∷ x ∷ xs
    unfolding put put_beside
    put-below e = rw (e, put)

    pub put-over : key r ≡ key x → put key r (x ∷ xs) ≡ r ∷ xs
    unfolding put put_beside
    put-over e = rw (eq-order e, put)

    pub put-past : order (key r) (key x) ≡ more → put key r (x ∷ xs) ≡ x ∷ put key r xs
    unfolding put put_beside
    put-past e = rw (e, put)

  module _ (k : Bytes) (x : A) (xs : List A) where
    pub take_out-here : k ≡ key x → take_out key k (x ∷ xs) ≡ xs
    unfolding take_out take_if
    take_out-here e = rw (eq-same e, take_out)

    pub take_out-past : (k ≡ key x → ⊥) → take_out key k (x ∷ xs) ≡ x ∷ take_out key k xs
    unfolding take_out take_if
    take_out-past h = rw (ne_same k (key x) h, take_out)

    pub lookup-here : k ≡ key x → lookup key k (x ∷ xs) ≡ Some x
    unfolding lookup
    lookup-here e = rw (eq-same e, lookup)

    pub lookup-past : (k ≡ key x → ⊥) → lookup key k (x ∷ xs) ≡ lookup key k xs
    unfolding lookup
    lookup-past h = rw (ne_same k (key x) h, lookup)

  -- ---- order

  pub All-put : (P : A → Type 0) (r : A) (xs : List A) → All P xs → P r → All P (put key r xs)
  unfolding put All
  All-put P r [] h p = (p, tt)
  All-put P r (x ∷ xs) h p = go (All-put P r xs h.1 p) (order (key r) (key x)) refl
    where
      go : All P (put key r xs) → (o : Order) → order (key r) (key x) ≡ o → All P (put key r (x ∷ xs))
      go ih less e = rw (put-below r x xs e) (p, h)
      go ih equal e = rw (put-over r x xs (order-equal (key r) (key x) e)) (p, h.1)
      go ih more e = rw (put-past r x xs e) (h.0, ih)

  pub All-take_out : (P : A → Type 0) (k : Bytes) (xs : List A) → All P xs → All P (take_out key k xs)
  unfolding take_out All
  All-take_out P k [] h = tt
  All-take_out P k (x ∷ xs) h = go (All-take_out P k xs h.1) (same_or_not k (key x))
    where
      go : All P (take_out key k xs) → (k ≡ key x) ⊎ (k ≡ key x → ⊥) → All P (take_out key k (x ∷ xs))
      go ih (inl e) = rw (take_out-here k x xs e) h.1
      go ih (inr n) = rw (take_out-past k x xs n) (h.0, ih)

  pub ascends_put : (r : A) (xs : List A) → Ascends key xs → Ascends key (put key r xs)
  unfolding put All
  ascends_put r [] s = (tt, tt)
  ascends_put r (x ∷ xs) s = go (ascends_put r xs s.1) (order (key r) (key x)) refl
    where
      go : Ascends key (put key r xs) → (o : Order) → order (key r) (key x) ≡ o → Ascends key (put key r (x ∷ xs))
      go ih less e = rw (put-below r x xs e) (ascends-cons key r x xs e s)
      go ih equal e =
          let q : key r ≡ key x = order-equal (key r) (key x) e in
          rw (put-over r x xs q) (All-weaken (Below key x) (Below key r) xs (λ y h. rw q h) s.0, s.1)
      go ih more e = rw (put-past r x xs e) (All-put (Below key x) r xs s.0 (more-less (key r) (key x) e), ih)

  pub ascends-take_out : (k : Bytes) (xs : List A) → Ascends key xs → Ascends key (take_out key k xs)
  unfolding take_out
  ascends-take_out k [] s = tt
  ascends-take_out k (x ∷ xs) s = go (ascends-take_out k xs s.1) (same_or_not k (key x))
    where
      go : Ascends key (take_out key k xs) → (k ≡ key x) ⊎ (k ≡ key x → ⊥) → Ascends key (take_out key k (x ∷ xs))
      go ih (inl e) = rw (take_out-here k x xs e) s.1
      go ih (inr n) = rw (take_out-past k x xs n) (All-take_out (Below key x) k xs s.0, ih)

  -- ---- length

  pub put-length-new : (r : A) (xs : List A) → holds (key r) (map key xs) ≡ false → length (put key r xs) ≡ suc (length xs)
  unfolding put
  put-length-new r [] h = refl
  put-length-new r (x ∷ xs) h = go (put-length-new r xs) (order (key r) (key x)) refl
    where
      go : (holds (key r) (map key xs) ≡ false → length (put key r xs) ≡ suc (length xs)) → (o : Order) → order (key r) (key x) ≡ o
          → length (put key r (x ∷ xs)) ≡ suc (suc (length xs))
      go ih less e = rw (put-below r x xs e)
      go ih equal e = absurd (true-not-false (holds-head (key r) (key x) (map key xs) (order-equal (key r) (key x) e)) h)
      go ih more e = rw (put-past r x xs e) (ap suc (ih (sym (holds-past (key r) (key x) (map key xs) (order-more-ne (key r) (key x) e)) ∙ h)))

  pub put-length-held : (r : A) (xs : List A) → Ascends key xs → holds (key r) (map key xs) ≡ true → length (put key r xs) ≡ length xs
  unfolding holds
  put-length-held r [] s h = apart (cc)
  put-length-held r (x ∷ xs) s h = go (put-length-held r xs s.1) (order (key r) (key x)) refl
    where
      go : (holds (key r) (map key xs) ≡ true → length (put key r xs) ≡ length xs) → (o : Order) → order (key r) (key x) ≡ o
          → length (put key r (x ∷ xs)) ≡ suc (length xs)
      go ih less e = absurd (true-not-false h (below-not-held key r (x ∷ xs) (ascends-cons key r x xs e s).0))
      go ih equal e = rw (put-over r x xs (order-equal (key r) (key x) e))
      go ih more e = rw (put-past r x xs e) (ap suc (ih (sym (holds-past (key r) (key x) (map key xs) (order-more-ne (key r) (key x) e)) ∙ h)))

  pub put-length-le : (r : A) (xs : List A) → (length xs ≤ length (put key r xs)) × (length (put key r xs) ≤ suc (length xs))
  unfolding put
  put-length-le r [] = (omega arith, omega arith)
  put-length-le r (x ∷ xs) = go (put-length-le r xs) (order (key r) (key x)) refl
    where
      go : (length xs ≤ length (put key r xs)) × (length (put key r xs) ≤ suc (length xs)) → (o : Order) → order (key r) (key x) ≡ o
          → (suc (length xs) ≤ length (put key r (x ∷ xs))) × (length (put key r (x ∷ xs)) ≤ suc (suc (length xs)))
      go ih less e = rw (put-below r x xs e) (omega arith, omega arith)
      go ih equal e = rw (put-over r x xs (order-equal (key r) (key x) e)) (omega arith, omega arith)
      go ih more e = rw (put-past r x xs e) (omega arith, omega arith)

  pub take_out-none : (k : Bytes) (xs : List A) → holds k (map key xs) ≡ false → take_out key k xs ≡ xs
  unfolding take_out
  take_out-none k [] h = refl
  take_out-none k (x ∷ xs) h = go (take_out-none k xs) (same_or_not k (key x))
    where
      go : (holds k (map key xs) ≡ false → take_out key k xs ≡ xs) → (k ≡ key x) ⊎ (k ≡ key x → ⊥) → take_out key k (x ∷ xs) ≡ x ∷ xs
      go ih (inl e) = absurd (true-not-false (holds-head k (key x) (map key xs) e) h)
      go ih (inr n) = take_out-past k x xs n ∙ ap (λ (l : List A). x ∷ l) (ih (sym (holds-past k (key x) (map key xs) n) ∙ h))

  pub take_out-length-held : (k : Bytes) (xs : List A) → holds k (map key xs) ≡ true → suc (length (take_out key k xs)) ≡ length xs
  unfolding holds
  take_out-length-held k [] h = apart (cc)
  take_out-length-held k (x ∷ xs) h = go (take_out-length-held k xs) (same_or_not k (key x))
    where
      go : (holds k (map key xs) ≡ true → suc (length (take_out key k xs)) ≡ length xs) → (k ≡ key x) ⊎ (k ≡ key x → ⊥)
          → suc (length (take_out key k (x ∷ xs))) ≡ suc (length xs)
      go ih (inl e) = rw (take_out-here k x xs e)
      go ih (inr n) = rw (take_out-past k x xs n) (ap suc (ih (sym (holds-past k (key x) (map key xs) n) ∙ h)))

  -- ---- look-up

  pub lookup-put : (r : A) (xs : List A) → lookup key (key r) (put key r xs) ≡ Some r
  unfolding put
  lookup-put r [] = lookup-here (key r) r [] refl
  lookup-put r (x ∷ xs) = go (lookup-put r xs) (order (key r) (key x)) refl
    where
      go : lookup key (key r) (put key r xs) ≡ Some r → (o : Order) → order (key r) (key x) ≡ o → lookup key (key r) (put key r (x ∷ xs)) ≡ Some r
      go ih less e = rw (put-below r x xs e) (lookup-here (key r) r (x ∷ xs) refl)
      go ih equal e = rw (put-over r x xs (order-equal (key r) (key x) e)) (lookup-here (key r) r xs refl)
      go ih more e = rw (put-past r x xs e) (lookup-past (key r) x (put key r xs) (order-more-ne (key r) (key x) e) ∙ ih)

  pub lookup-put-other : (k : Bytes) (r : A) (xs : List A) → (k ≡ key r → ⊥) → lookup key k (put key r xs) ≡ lookup key k xs
  unfolding put
  lookup-put-other k r [] n = lookup-past k r [] n
  lookup-put-other k r (x ∷ xs) n = go (lookup-put-other k r xs n) (order (key r) (key x)) refl (same_or_not k (key x))
    where
      go : lookup key k (put key r xs) ≡ lookup key k xs → (o : Order) → order (key r) (key x) ≡ o → (k ≡ key x) ⊎ (k ≡ key x → ⊥)
          → lookup key k (put key r (x ∷ xs)) ≡ lookup key k (x ∷ xs)
      go ih less e c = rw (put-below r x xs e) (lookup-past k r (x ∷ xs) n)
      go ih equal e c =
          let q : key r ≡ key x = order-equal (key r) (key x) e in
          rw (put-over r x xs q) (lookup-past k r xs n ∙ sym (lookup-past k x xs (λ p. n (p ∙ sym q))))
      go ih more e (inl p) = rw (put-past r x xs e) (lookup-here k x (put key r xs) p ∙ sym (lookup-here k x xs p))
      go ih more e (inr p) = rw (put-past r x xs e) (lookup-past k x (put key r xs) p ∙ ih ∙ sym (lookup-past k x xs p))

  pub lookup-none : (k : Bytes) (xs : List A) → holds k (map key xs) ≡ false → lookup key k xs ≡ None
  unfolding lookup
  lookup-none k [] h = refl
  lookup-none k (x ∷ xs) h = go (lookup-none k xs) (same_or_not k (key x))
    where
      go : (holds k (map key xs) ≡ false → lookup key k xs ≡ None) → (k ≡ key x) ⊎ (k ≡ key x → ⊥) → lookup key k (x ∷ xs) ≡ None
      go ih (inl e) = absurd (true-not-false (holds-head k (key x) (map key xs) e) h)
      go ih (inr n) = lookup-past k x xs n ∙ ih (sym (holds-past k (key x) (map key xs) n) ∙ h)

  pub none-lookup : (k : Bytes) (xs : List A) → lookup key k xs ≡ None → holds k (map key xs) ≡ false
  unfolding holds
  none-lookup k [] h = refl
  none-lookup k (x ∷ xs) h = go (none-lookup k xs) (same_or_not k (key x))
    where
      go : (lookup key k xs ≡ None → holds k (map key xs) ≡ false) → (k ≡ key x) ⊎ (k ≡ key x → ⊥) → holds k (key x ∷ map key xs) ≡ false
      go ih (inl e) = apart (cc (lookup-here k x xs e))
      go ih (inr n) = holds-past k (key x) (map key xs) n ∙ ih (sym (lookup-past k x xs n) ∙ h)

  pub lookup_key : (k : Bytes) (xs : List A) (r : A) → lookup key k xs ≡ Some r → key r ≡ k
  unfolding lookup
  lookup_key k [] r h = apart (cc)
  lookup_key k (x ∷ xs) r h = go (lookup_key k xs r) (same_or_not k (key x))
    where
      go : (lookup key k xs ≡ Some r → key r ≡ k) → (k ≡ key x) ⊎ (k ≡ key x → ⊥) → key r ≡ k
      go ih (inl e) =
          let q : Some x ≡ Some r = sym (lookup-here k x xs e) ∙ h in
          let p : x ≡ r = cc in
          rw (← p) (sym e)
      go ih (inr n) = ih (sym (lookup-past k x xs n) ∙ h)

  pub lookup-take_out : (k : Bytes) (xs : List A) → Ascends key xs → lookup key k (take_out key k xs) ≡ None
  unfolding take_out lookup
  lookup-take_out k [] s = refl
  lookup-take_out k (x ∷ xs) s = go (lookup-take_out k xs s.1) (same_or_not k (key x))
    where
      go : lookup key k (take_out key k xs) ≡ None → (k ≡ key x) ⊎ (k ≡ key x → ⊥) → lookup key k (take_out key k (x ∷ xs)) ≡ None
      go ih (inl e) = rw (take_out-here k x xs e) (lookup-none k xs (rw e (below-not-held key x xs s.0)))
      go ih (inr n) = rw (take_out-past k x xs n) (lookup-past k x (take_out key k xs) n ∙ ih)

  pub lookup-take_out-other : (k j : Bytes) (xs : List A) → (k ≡ j → ⊥) → lookup key k (take_out key j xs) ≡ lookup key k xs
  unfolding take_out
  lookup-take_out-other k j [] n = refl
  lookup-take_out-other k j (x ∷ xs) n = go (lookup-take_out-other k j xs n) (same_or_not j (key x)) (same_or_not k (key x))
    where
      go : lookup key k (take_out key j xs) ≡ lookup key k xs → (j ≡ key x) ⊎ (j ≡ key x → ⊥) → (k ≡ key x) ⊎ (k ≡ key x → ⊥)
          → lookup key k (take_out key j (x ∷ xs)) ≡ lookup key k (x ∷ xs)
      go ih (inl e) c = rw (take_out-here j x xs e) (sym (lookup-past k x xs (λ p. n (p ∙ sym e))))
      go ih (inr m) (inl p) = rw (take_out-past j x xs m) (lookup-here k x (take_out key j xs) p ∙ sym (lookup-here k x xs p))
      go ih (inr m) (inr p) = rw (take_out-past j x xs m) (lookup-past k x (take_out key j xs) p ∙ ih ∙ sym (lookup-past k x xs p))

-- ---- through a map that keeps the keys

module _ {A B : Type 0} (key : A → Bytes) (key' : B → Bytes) (f : A → B) (same_key : (x : A) → key x ≡ key' (f x)) where
  pub map-put : (r : A) (xs : List A) → map f (put key r xs) ≡ put key' (f r) (map f xs)
  unfolding put
  map-put r [] = refl
  map-put r (x ∷ xs) = go (map-put r xs) (order (key r) (key x)) refl
    where
      go : map f (put key r xs) ≡ put key' (f r) (map f xs) → (o : Order) → order (key r) (key x) ≡ o
          → map f (put key r (x ∷ xs)) ≡ put key' (f r) (f x ∷ map f xs)
      go ih less e = rw (put-below key r x xs e) (sym (put-below key' (f r) (f x) (map f xs) (rw (same_key r, same_key x) at e)))
      go ih equal e =
          let q : key r ≡ key x = order-equal (key r) (key x) e in
          rw (put-over key r x xs q) (sym (put-over key' (f r) (f x) (map f xs) (sym (same_key r) ∙ q ∙ same_key x)))
      go ih more e =
          rw (put-past key r x xs e)
          (ap (λ (l : List B). f x ∷ l) ih ∙ sym (put-past key' (f r) (f x) (map f xs) (rw (same_key r, same_key x) at e)))

  pub map-take_out : (k : Bytes) (xs : List A) → map f (take_out key k xs) ≡ take_out key' k (map f xs)
  unfolding take_out
  map-take_out k [] = refl
  map-take_out k (x ∷ xs) = go (map-take_out k xs) (same_or_not k (key x))
    where
      go : map f (take_out key k xs) ≡ take_out key' k (map f xs) → (k ≡ key x) ⊎ (k ≡ key x → ⊥)
          → map f (take_out key k (x ∷ xs)) ≡ take_out key' k (f x ∷ map f xs)
      go ih (inl e) = rw (take_out-here key k x xs e) (sym (take_out-here key' k (f x) (map f xs) (e ∙ same_key x)))
      go ih (inr n) =
          rw (take_out-past key k x xs n)
          (ap (λ (l : List B). f x ∷ l) ih ∙ sym (take_out-past key' k (f x) (map f xs) (λ p. n (p ∙ sym (same_key x)))))
