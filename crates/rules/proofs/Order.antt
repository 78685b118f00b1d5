-- The order of byte strings is total, and `same` and `begins` are what they say.
-- The last section meets two strings byte by byte, as a scanner does.
use mathlib.Core.Path.{◌≡◌, refl, sym, ap, ◌∙◌}
use mathlib.Core.Logic.{◌⊎◌, inl, inr}
use mathlib.Core.Bool.{Bool, true, false}
use mathlib.Core.List.{[], ◌∷◌, ◌++◌}
use Prim.Native.Nat.{ℕ, suc, ◌+◌, ◌≤◌, ◌<◌}
use native.Mathlib.Numerals.{add-one}
use native.Mathlib.Omega.{arith}
use lib.Dec.{eqb, ltb}
use lib.ListN.{length, take, drop, get_or, drop_of_length-le}
use lib.Seq.{drop-cons}
use borrow.Author.Tests.{ltb-true, ltb-false, lt-ltb, le-ltb, eqb-true, eq-eqb, ne_eqb}
use Rattle.rules.specs.Bytes.{Bytes, same, begins, Order, less, equal, more, order, is_equal}
use Rattle.rules.proofs.Tests.{apart, by, true-not-false, false_of}

-- ---- numbers

pub trichotomy : (x y : ℕ) → (x < y) ⊎ ((y < x) ⊎ (x ≡ y))
trichotomy x y = go (ltb x y) refl (ltb y x) refl
  where
    go : (s : Bool) → ltb x y ≡ s → (t : Bool) → ltb y x ≡ t → (x < y) ⊎ ((y < x) ⊎ (x ≡ y))
    go true e t f = inl (ltb-true x y e)
    go false e true f = inr (inl (ltb-true y x f))
    go false e false f =
        let a : y ≤ x = ltb-false x y e in
        let b : x ≤ y = ltb-false y x f in
        inr (inr (omega arith))

-- ---- same

module _ (x y : ℕ) (xs ys : Bytes) where
  pub same-cons : x ≡ y → same (x ∷ xs) (y ∷ ys) ≡ same xs ys
  unfolding same
  same-cons e = rw (eq-eqb x y e, same)

  pub same-cons-ne : (x ≡ y → ⊥) → same (x ∷ xs) (y ∷ ys) ≡ false
  unfolding same
  same-cons-ne e = rw (ne_eqb x y e, same)

  pub begins-cons : x ≡ y → begins (x ∷ xs) (y ∷ ys) ≡ begins xs ys
  unfolding begins
  begins-cons e = rw (eq-eqb x y e, begins)

  pub begins-cons-ne : (x ≡ y → ⊥) → begins (x ∷ xs) (y ∷ ys) ≡ false
  unfolding begins
  begins-cons-ne e = rw (ne_eqb x y e, begins)

pub same_true : (x y : Bytes) → same x y ≡ true → x ≡ y
unfolding same
same_true [] [] e = refl
same_true [] (y ∷ ys) e = apart (cc)
same_true (x ∷ xs) [] e = apart (cc)
same_true (x ∷ xs) (y ∷ ys) e = go (same_true xs ys) (eqb x y) refl e
  where
    go : (same xs ys ≡ true → xs ≡ ys) → (b : Bool) → eqb x y ≡ b → elim b [ true ↦ same xs ys | false ↦ false ] ≡ true → x ∷ xs ≡ y ∷ ys
    go ih true q e = cc (eqb-true x y q, ih e)
    go ih false q e = apart (cc)

pub same_refl : (x : Bytes) → same x x ≡ true
unfolding same
same_refl [] = refl
same_refl (x ∷ xs) = same-cons x x xs xs refl ∙ same_refl xs

pub eq-same : {x y : Bytes} → x ≡ y → same x y ≡ true
eq-same {x} e = rw (← e) (same_refl x)

pub ne_same : (x y : Bytes) → (x ≡ y → ⊥) → same x y ≡ false
ne_same x y h = false_of (same x y) (λ e. h (same_true x y e))

pub same_false : (x y : Bytes) → same x y ≡ false → x ≡ y → ⊥
same_false x y f e = true-not-false (eq-same e) f

pub same_or_not : (x y : Bytes) → (x ≡ y) ⊎ (x ≡ y → ⊥)
same_or_not x y = by (same x y) (λ e. inl (same_true x y e)) (λ e. inr (same_false x y e))

-- ---- begins

pub begins-append : (p y : Bytes) → begins p (p ++ y) ≡ true
unfolding begins
begins-append [] y = refl
begins-append (x ∷ p) y = begins-cons x x p (p ++ y) refl ∙ begins-append p y

pub begins-true : (p y : Bytes) → begins p y ≡ true → take (length p) y ≡ p
unfolding begins
begins-true [] y e = refl
begins-true (x ∷ p) [] e = apart (cc)
begins-true (x ∷ p) (y ∷ ys) e = go (begins-true p ys) (eqb x y) refl e
  where
    go : (begins p ys ≡ true → take (length p) ys ≡ p) → (b : Bool) → eqb x y ≡ b → elim b [ true ↦ begins p ys | false ↦ false ] ≡ true
        → y ∷ take (length p) ys ≡ x ∷ p
    go ih true q e = cc (eqb-true x y q, ih e)
    go ih false q e = apart (cc)

pub take_begins : (p y : Bytes) → take (length p) y ≡ p → begins p y ≡ true
unfolding begins
take_begins [] y e = refl
take_begins (x ∷ p) [] e = apart (cc)
take_begins (x ∷ p) (y ∷ ys) e =
    let q : x ≡ y = cc in
    let r : take (length p) ys ≡ p = cc in
    begins-cons x y p ys q ∙ take_begins p ys r

-- ---- order

module _ (x y : ℕ) (xs ys : Bytes) where
  pub order-cons-less : x < y → order (x ∷ xs) (y ∷ ys) ≡ less
  unfolding order
  order-cons-less h = rw (lt-ltb x y h, order)

  pub order-cons-more : y < x → order (x ∷ xs) (y ∷ ys) ≡ more
  unfolding order
  order-cons-more h = let g : y ≤ x = omega arith in rw (le-ltb x y g, lt-ltb y x h, order)

  pub order-cons-equal : x ≡ y → order (x ∷ xs) (y ∷ ys) ≡ order xs ys
  unfolding order
  order-cons-equal e =
      let g : y ≤ x = omega arith in
      let h : x ≤ y = omega arith in
      rw (le-ltb x y g, le-ltb y x h, order)

-- how y stands to x, where x stands so to y
abbrev pub flipped : Order → Order
flipped less = more
flipped equal = equal
flipped more = less

pub order_flip : (x y : Bytes) → order y x ≡ flipped (order x y)
unfolding order
order_flip [] [] = refl
order_flip [] (y ∷ ys) = refl
order_flip (x ∷ xs) [] = refl
order_flip (x ∷ xs) (y ∷ ys) = go (order_flip xs ys) (trichotomy x y)
  where
    go : order ys xs ≡ flipped (order xs ys) → (x < y) ⊎ ((y < x) ⊎ (x ≡ y)) → order (y ∷ ys) (x ∷ xs) ≡ flipped (order (x ∷ xs) (y ∷ ys))
    go ih (inl l) = order-cons-more y x ys xs l ∙ sym (ap flipped (order-cons-less x y xs ys l))
    go ih (inr (inl l)) = order-cons-less y x ys xs l ∙ sym (ap flipped (order-cons-more x y xs ys l))
    go ih (inr (inr e)) = order-cons-equal y x ys xs (sym e) ∙ ih ∙ sym (ap flipped (order-cons-equal x y xs ys e))

pub less-more : (x y : Bytes) → order x y ≡ less → order y x ≡ more
less-more x y e = order_flip x y ∙ ap flipped e

pub more-less : (x y : Bytes) → order x y ≡ more → order y x ≡ less
more-less x y e = order_flip x y ∙ ap flipped e

pub order-refl : (x : Bytes) → order x x ≡ equal
unfolding order
order-refl [] = refl
order-refl (x ∷ xs) = order-cons-equal x x xs xs refl ∙ order-refl xs

pub eq-order : {x y : Bytes} → x ≡ y → order x y ≡ equal
eq-order {x} e = rw (← e) (order-refl x)

pub order-equal : (x y : Bytes) → order x y ≡ equal → x ≡ y
unfolding order
order-equal [] [] e = refl
order-equal [] (y ∷ ys) e = apart (cc)
order-equal (x ∷ xs) [] e = apart (cc)
order-equal (x ∷ xs) (y ∷ ys) e = go (order-equal xs ys) (trichotomy x y)
  where
    go : (order xs ys ≡ equal → xs ≡ ys) → (x < y) ⊎ ((y < x) ⊎ (x ≡ y)) → x ∷ xs ≡ y ∷ ys
    go ih (inl l) = apart (cc (order-cons-less x y xs ys l))
    go ih (inr (inl l)) = apart (cc (order-cons-more x y xs ys l))
    go ih (inr (inr q)) = cc (ih (sym (order-cons-equal x y xs ys q) ∙ e))

pub order-less-ne : (x y : Bytes) → order x y ≡ less → x ≡ y → ⊥
order-less-ne x y e q = apart (cc (eq-order q))

pub order-more-ne : (x y : Bytes) → order x y ≡ more → x ≡ y → ⊥
order-more-ne x y e q = apart (cc (eq-order q))

pub order_trans : (x y z : Bytes) → order x y ≡ less → order y z ≡ less → order x z ≡ less
unfolding order
order_trans x [] [] h k = apart (cc)
order_trans [] [] (c ∷ z) h k = refl
order_trans (a ∷ x) [] (c ∷ z) h k = apart (cc)
order_trans x (b ∷ y) [] h k = apart (cc)
order_trans [] (b ∷ y) (c ∷ z) h k = refl
order_trans (a ∷ x) (b ∷ y) (c ∷ z) h k = go (order_trans x y z) (trichotomy a b) (trichotomy b c)
  where
    go : (order x y ≡ less → order y z ≡ less → order x z ≡ less) → (a < b) ⊎ ((b < a) ⊎ (a ≡ b)) → (b < c) ⊎ ((c < b) ⊎ (b ≡ c)) → order (a ∷ x) (c ∷ z) ≡ less
    go ih (inr (inl l)) m = apart (cc (order-cons-more a b x y l))
    go ih (inl l) (inr (inl m)) = apart (cc (order-cons-more b c y z m))
    go ih (inr (inr e)) (inr (inl m)) = apart (cc (order-cons-more b c y z m))
    go ih (inl l) (inl m) = order-cons-less a c x z (omega arith)
    go ih (inl l) (inr (inr f)) = order-cons-less a c x z (omega arith)
    go ih (inr (inr e)) (inl m) = order-cons-less a c x z (omega arith)
    go ih (inr (inr e)) (inr (inr f)) = order-cons-equal a c x z (e ∙ f) ∙ ih (sym (order-cons-equal a b x y e) ∙ h) (sym (order-cons-equal b c y z f) ∙ k)

pub order-trans-more : (x y z : Bytes) → order x y ≡ more → order y z ≡ more → order x z ≡ more
order-trans-more x y z h k = less-more z x (order_trans z y x (more-less y z k) (more-less x y h))

pub order-append : (p x y : Bytes) → order (p ++ x) (p ++ y) ≡ order x y
order-append [] x y = refl
order-append (b ∷ p) x y = order-cons-equal b b (p ++ x) (p ++ y) refl ∙ order-append p x y

pub same-order : (x y : Bytes) → same x y ≡ is_equal (order x y)
unfolding is_equal
same-order x y = go (order x y) refl
  where
    go : (o : Order) → order x y ≡ o → same x y ≡ is_equal o
    go less e = ne_same x y (order-less-ne x y e)
    go equal e = eq-same (order-equal x y e)
    go more e = ne_same x y (order-more-ne x y e)

-- ---- from place i of both

module _ (a b : Bytes) (i : ℕ) (ha : i < length a) where
  pub order-second-ends : length b ≤ i → order (drop i a) (drop i b) ≡ more
  unfolding order
  order-second-ends h = rw (drop-cons a i 0 ha, drop_of_length-le b h)

  module _ (hb : i < length b) where
    pub order-at-less : get_or a i 0 < get_or b i 0 → order (drop i a) (drop i b) ≡ less
    order-at-less h = rw (drop-cons a i 0 ha, drop-cons b i 0 hb) (order-cons-less (get_or a i 0) (get_or b i 0) (drop (suc i) a) (drop (suc i) b) h)

    pub order-at-more : get_or b i 0 < get_or a i 0 → order (drop i a) (drop i b) ≡ more
    order-at-more h = rw (drop-cons a i 0 ha, drop-cons b i 0 hb) (order-cons-more (get_or a i 0) (get_or b i 0) (drop (suc i) a) (drop (suc i) b) h)

    pub order-at-equal : get_or a i 0 ≡ get_or b i 0 → order (drop i a) (drop i b) ≡ order (drop (i + 1) a) (drop (i + 1) b)
    order-at-equal h = rw (add-one, drop-cons a i 0 ha, drop-cons b i 0 hb) (order-cons-equal (get_or a i 0) (get_or b i 0) (drop (suc i) a) (drop (suc i) b) h)

pub order-first-ends : (a b : Bytes) (i : ℕ) → length a ≤ i → i < length b → order (drop i a) (drop i b) ≡ less
unfolding order
order-first-ends a b i h k = rw (drop_of_length-le a h, drop-cons b i 0 k)

pub order-both-end : (a b : Bytes) (i : ℕ) → length a ≤ i → length b ≤ i → order (drop i a) (drop i b) ≡ equal
unfolding order
order-both-end a b i h k = rw (drop_of_length-le a h, drop_of_length-le b k)
