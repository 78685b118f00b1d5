-- Byte strings by what they begin with in common: `begins` and `order`; `same` by `begins`, and booleans by `same`.
use mathlib.Core.Path.{◌≡◌, refl, sym, ap, subst, ◌∙◌}
use mathlib.Core.Bool.{Bool, true, false}
use mathlib.Core.List.{[], ◌∷◌}
use Rattle.std.specs.Prelude.{None, Some}
use Prim.Native.Nat.{ℕ, zero, suc, ◌+◌, ◌≤◌, ◌<◌, min}
use native.Mathlib.Numerals.{add-one}
use native.Mathlib.Omega.{arith}
use lib.ListN.{length, drop, get_or, drop_of_length-le}
use lib.Dec.{eqb}
use borrow.Author.Tests.{eqb-true, eqb-false}
use Rattle.std.specs.Ordering.{nat_cmp}
use Rattle.std.proofs.lemmas.Cmp.{by_ranked, ranked}
use Rattle.facts.proofs.Lists.{drop_here}
use Rattle.rules.specs.Bytes.{Bytes, ascii, first, same, begins, order}
use Rattle.rules.specs.Json.Fields.{bool_of}
use Rattle.rules.proofs.Order.{begins-cons, begins-cons-ne, ne_same, order-at-less, order-at-more, order-at-equal}
use Rattle.rules.proofs.Order.{order-first-ends, order-second-ends, order-both-end}
use Rattle.rules.proofs.Tests.{by}
use Rattle.bytes_eights.specs.Alike.{Alike, Common}
use Rattle.bytes_values.specs.Answers.{order_is}

-- what each equal byte keeps, all that two strings begin with in common keeps
alike-keep : (P : ℕ → Type 0) (a b : Bytes) → ((i : ℕ) → P i → i < length a → i < length b → get_or a i 0 ≡ get_or b i 0 → P (i + 1))
    → (n : ℕ) → n ≤ length a → n ≤ length b → Alike a 0 b 0 n → P 0 → P n
alike-keep P a b step zero ha hb e x = x
alike-keep P a b step (suc n) ha hb e x =
    let q : 0 + n ≡ n = omega arith in
    let last : get_or a n 0 ≡ get_or b n 0 = subst (λ (k : ℕ). get_or a k 0 ≡ get_or b k 0) q (e n (omega arith)) in
    subst P (add-one n) (step n (alike-keep P a b step n (omega arith) (omega arith) (λ k h. e k (omega arith)) x) (omega arith) (omega arith) last)

-- the first byte that is not common
common-differ : (a b : Bytes) (few n : ℕ) → n < few → Common a 0 b 0 few n → get_or a n 0 ≡ get_or b n 0 → ⊥
common-differ a b few n h c e =
    let q : n ≡ 0 + n = omega arith in
    c.2 h (subst (λ (k : ℕ). get_or a k 0 ≡ get_or b k 0) q e)

-- ---- begins

module _ (a b : Bytes) (i : ℕ) (ha : i < length a) (hb : i < length b) where
  begins-at-equal : get_or a i 0 ≡ get_or b i 0 → begins (drop i a) (drop i b) ≡ begins (drop (i + 1) a) (drop (i + 1) b)
  begins-at-equal e = rw (drop_here a i 0 ha, drop_here b i 0 hb) (begins-cons (get_or a i 0) (get_or b i 0) (drop (i + 1) a) (drop (i + 1) b) e)

  begins-at-ne : (get_or a i 0 ≡ get_or b i 0 → ⊥) → begins (drop i a) (drop i b) ≡ false
  begins-at-ne e = rw (drop_here a i 0 ha, drop_here b i 0 hb) (begins-cons-ne (get_or a i 0) (get_or b i 0) (drop (i + 1) a) (drop (i + 1) b) e)

begins-end : (a b : Bytes) (i : ℕ) → length a ≤ i → begins (drop i a) (drop i b) ≡ true
unfolding begins
begins-end a b i h = rw (drop_of_length-le a h)

-- a begins b where all of a is common
pub begins-common : (a b : Bytes) (n : ℕ) → length a ≤ length b → Common a 0 b 0 (length a) n → eqb n (length a) ≡ begins a b
begins-common a b n h c =
    by (eqb n (length a))
    (λ e. e ∙ sym (begins-end a b n (omega (arith, eqb-true n (length a) e))) ∙ behind)
    (λ e. e ∙ sym (begins-at-ne a b n (below e) (omega (arith, below e)) (common-differ a b (length a) n (below e) c)) ∙ behind)
  where
    behind : begins (drop n a) (drop n b) ≡ begins a b
    behind =
        alike-keep
        (λ i. begins (drop i a) (drop i b) ≡ begins a b)
        a b
        (λ i v ha hb q. sym (begins-at-equal a b i ha hb q) ∙ v)
        n c.0
        (omega (arith, c.0))
        c.1 refl

    below : eqb n (length a) ≡ false → n < length a
    below e = omega (arith, c.0, eqb-false n (length a) e)

-- a longer string begins none
pub begins-longer : (a b : Bytes) → length b < length a → begins a b ≡ false
unfolding begins
begins-longer [] b h = absurd (omega arith)
begins-longer (x ∷ a) [] h = refl
begins-longer (x ∷ a) (y ∷ b) h = go (begins-longer a b (omega arith)) (eqb x y) refl
  where
    go : begins a b ≡ false → (t : Bool) → eqb x y ≡ t → begins (x ∷ a) (y ∷ b) ≡ false
    go ih true e = rw (begins, e) ih
    go ih false e = rw (begins, e)

pub same-lengths : (a b : Bytes) → (length a ≡ length b → ⊥) → same a b ≡ false
same-lengths a b h = ne_same a b (λ e. h (ap length e))

pub same-begins : (a b : Bytes) → length a ≡ length b → same a b ≡ begins a b
unfolding same begins
same-begins [] [] h = refl
same-begins [] (y ∷ b) h = absurd (omega arith)
same-begins (x ∷ a) [] h = absurd (omega arith)
same-begins (x ∷ a) (y ∷ b) h = go (same-begins a b (omega arith)) (eqb x y) refl
  where
    go : same a b ≡ begins a b → (t : Bool) → eqb x y ≡ t → same (x ∷ a) (y ∷ b) ≡ begins (x ∷ a) (y ∷ b)
    go ih true e = rw (begins, same, e) ih
    go ih false e = rw (begins, same, e)

-- ---- order

module _ (a b : Bytes) (few n : ℕ) (least : few ≡ min (length a) (length b)) (c : Common a 0 b 0 few n) where
  order-behind : order (drop n a) (drop n b) ≡ order a b
  order-behind =
      alike-keep (λ i. order (drop i a) (drop i b) ≡ order a b) a b (λ i v la lb q. sym (order-at-equal a b i la lb q) ∙ v) n
      (omega (arith, c.0)) (omega (arith, c.0)) c.1 refl

  -- the first byte that is not common tells
  pub order-differ : n < few → nat_cmp (get_or a n 0) (get_or b n 0) ≡ order_is (order a b)
  unfolding order_is
  order-differ h =
      by_ranked _ _ _ (nat_cmp (get_or a n 0) (get_or b n 0)) (ranked (get_or a n 0) (get_or b n 0) (nat_cmp (get_or a n 0) (get_or b n 0)) refl)
      (λ e l. e ∙ ap order_is (sym (order-at-less a b n (omega arith) (omega arith) l) ∙ order-behind))
      (λ e l. absurd (common-differ a b few n h c l))
      (λ e l. e ∙ ap order_is (sym (order-at-more a b n (omega arith) (omega arith) l) ∙ order-behind))

  -- where one begins the other, the lengths tell
  pub order-ended : few ≤ n → nat_cmp (length a) (length b) ≡ order_is (order a b)
  unfolding order_is
  order-ended h =
      by_ranked _ _ _ (nat_cmp (length a) (length b)) (ranked (length a) (length b) (nat_cmp (length a) (length b)) refl)
      (λ e l. e ∙ ap order_is (sym (order-first-ends a b n (omega arith) (omega (arith, c.0))) ∙ order-behind))
      (λ e l. e ∙ ap order_is (sym (order-both-end a b n (omega arith) (omega arith)) ∙ order-behind))
      (λ e l. e ∙ ap order_is (sym (order-second-ends a b n (omega (arith, c.0)) (omega arith)) ∙ order-behind))

-- ---- booleans

module _ (v : Bytes) where
  pub bool-true : same v (ascii "true") ≡ true → bool_of v ≡ Some true
  unfolding bool_of first
  bool-true e = rw e

  module _ (d : same v (ascii "true") ≡ false) where
    pub bool_false : same v (ascii "false") ≡ true → bool_of v ≡ Some false
    unfolding bool_of first
    bool_false e = rw (d, e)

    pub bool-none : same v (ascii "false") ≡ false → bool_of v ≡ None
    unfolding bool_of first
    bool-none e = rw (d, e)
