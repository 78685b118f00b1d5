-- Lists of byte strings: `holds`, `distinct`, `all_among` and `same_set` by the places of a list, as loops over it meet them.
use mathlib.Core.Path.{◌≡◌, refl, sym, ◌∙◌}
use mathlib.Core.Logic.{◌⊎◌, inl, inr}
use mathlib.Core.Bool.{Bool, true, false, ◌&&◌, ◌||◌, not}
use mathlib.Core.List.{List, [], ◌∷◌, ◌++◌}
use Prim.Native.Nat.{ℕ, zero, suc, ◌<◌, zero-le, suc-le-suc}
use native.Mathlib.Nat.{le_of_suc-le-suc, not-suc-le-zero}
use lib.ListN.{length, get_or}
use Rattle.rules.specs.Bytes.{Bytes, same, holds, distinct, all_among, same_set}
use Rattle.rules.proofs.Tests.{apart, true-not-false, false_of, tests-equal, or-fails, or-fails-left, or-fails-right, and_left, and_right, and_both}
use Rattle.rules.proofs.Order.{same_true, same_false, eq-same, ne_same}

-- ---- holds

module _ (x y : Bytes) (ys : List Bytes) where
  pub holds-head : x ≡ y → holds x (y ∷ ys) ≡ true
  unfolding holds
  holds-head e = rw (eq-same e, holds)

  pub holds-past : (x ≡ y → ⊥) → holds x (y ∷ ys) ≡ holds x ys
  unfolding holds
  holds-past h = rw (ne_same x y h, holds)

  pub holds-tail : holds x ys ≡ true → holds x (y ∷ ys) ≡ true
  unfolding holds
  holds-tail h = go (same x y)
    where
      go : (b : Bool) → elim b [ true ↦ true | false ↦ holds x ys ] ≡ true
      go true = refl
      go false = h

  pub holds-cases : holds x (y ∷ ys) ≡ true → (x ≡ y) ⊎ (holds x ys ≡ true)
  unfolding holds
  holds-cases h = go (same x y) refl h
    where
      go : (b : Bool) → same x y ≡ b → elim b [ true ↦ true | false ↦ holds x ys ] ≡ true → (x ≡ y) ⊎ (holds x ys ≡ true)
      go true e h = inl (same_true x y e)
      go false e h = inr h

pub holds-true : (x : Bytes) (ys : List Bytes) → holds x ys ≡ true → (i : ℕ) × (i < length ys) × (get_or ys i [] ≡ x)
unfolding holds
holds-true x [] h = apart (cc)
holds-true x (y ∷ ys) h = go (holds-true x ys) (holds-cases x y ys h)
  where
    go : (holds x ys ≡ true → (i : ℕ) × (i < length ys) × (get_or ys i [] ≡ x)) → (x ≡ y) ⊎ (holds x ys ≡ true)
        → (i : ℕ) × (i < suc (length ys)) × (get_or (y ∷ ys) i [] ≡ x)
    go ih (inl e) = (zero, suc-le-suc zero-le, sym e)
    go ih (inr t) = let r = ih t in (suc r.0, suc-le-suc r.1, r.2)

pub at-holds : (x : Bytes) (ys : List Bytes) (i : ℕ) → i < length ys → get_or ys i [] ≡ x → holds x ys ≡ true
at-holds x [] i l e = absurd (not-suc-le-zero l)
at-holds x (y ∷ ys) zero l e = holds-head x y ys (sym e)
at-holds x (y ∷ ys) (suc i) l e = holds-tail x y ys (at-holds x ys i (le_of_suc-le-suc l) e)

pub holds-false : (x : Bytes) (ys : List Bytes) → holds x ys ≡ false → (i : ℕ) → i < length ys → get_or ys i [] ≡ x → ⊥
holds-false x ys h i l e = true-not-false (at-holds x ys i l e) h

pub nowhere-holds : (x : Bytes) (ys : List Bytes) → ((i : ℕ) → i < length ys → get_or ys i [] ≡ x → ⊥) → holds x ys ≡ false
nowhere-holds x ys h = false_of (holds x ys) (λ t. let r = holds-true x ys t in h r.0 r.1 r.2)

pub holds-append : (x : Bytes) (ys zs : List Bytes) → holds x (ys ++ zs) ≡ (holds x ys || holds x zs)
unfolding holds
holds-append x [] zs = refl
holds-append x (y ∷ ys) zs = go (holds-append x ys zs) (same x y)
  where
    go : holds x (ys ++ zs) ≡ (holds x ys || holds x zs) → (b : Bool)
        → elim b [ true ↦ true | false ↦ holds x (ys ++ zs) ] ≡ (elim b [ true ↦ true | false ↦ holds x ys ] || holds x zs)
    go ih true = refl
    go ih false = ih

-- ---- distinct

module _ (x : Bytes) (xs : List Bytes) where
  pub distinct_cons : holds x xs ≡ false → distinct (x ∷ xs) ≡ distinct xs
  unfolding distinct
  distinct_cons h = rw (h, distinct)

  pub distinct-held : holds x xs ≡ true → distinct (x ∷ xs) ≡ false
  unfolding distinct
  distinct-held h = rw (h, distinct)

  pub distinct_head : distinct (x ∷ xs) ≡ true → holds x xs ≡ false
  distinct_head d = false_of (holds x xs) (λ h. true-not-false d (distinct-held h))

  pub distinct_tail : distinct (x ∷ xs) ≡ true → distinct xs ≡ true
  distinct_tail d = sym (distinct_cons (distinct_head d)) ∙ d

pub distinct-at : (xs : List Bytes) → distinct xs ≡ true → (i j : ℕ) → j < i → i < length xs → get_or xs i [] ≡ get_or xs j [] → ⊥
distinct-at [] d i j l m e = not-suc-le-zero m
distinct-at (x ∷ xs) d zero j l m e = not-suc-le-zero l
distinct-at (x ∷ xs) d (suc i) zero l m e = holds-false x xs (distinct_head x xs d) i (le_of_suc-le-suc m) e
distinct-at (x ∷ xs) d (suc i) (suc j) l m e = distinct-at xs (distinct_tail x xs d) i j (le_of_suc-le-suc l) (le_of_suc-le-suc m) e

pub distinct_of : (xs : List Bytes) → ((i j : ℕ) → j < i → i < length xs → get_or xs i [] ≡ get_or xs j [] → ⊥) → distinct xs ≡ true
unfolding distinct
distinct_of [] h = refl
distinct_of (x ∷ xs) h =
    distinct_cons x xs (nowhere-holds x xs (λ i l e. h (suc i) zero (suc-le-suc zero-le) (suc-le-suc l) e))
    ∙ distinct_of xs (λ i j l m e. h (suc i) (suc j) (suc-le-suc l) (suc-le-suc m) e)

-- one more at the end
pub distinct_snoc : (xs : List Bytes) (x : Bytes) → distinct (xs ++ x ∷ []) ≡ (distinct xs && not (holds x xs))
unfolding distinct holds
distinct_snoc [] x = refl
distinct_snoc (y ∷ ys) x = go (distinct_snoc ys x) (holds y ys) (same y x) refl (same x y) refl (holds-append y ys (x ∷ []))
  where
    go : distinct (ys ++ x ∷ []) ≡ (distinct ys && not (holds x ys)) → (b s : Bool) → same y x ≡ s → (t : Bool) → same x y ≡ t
        → holds y (ys ++ x ∷ []) ≡ (b || elim s [ true ↦ true | false ↦ false ])
        → elim (holds y (ys ++ x ∷ [])) [ true ↦ false | false ↦ distinct (ys ++ x ∷ []) ]
        ≡ (elim b [ true ↦ false | false ↦ distinct ys ] && not (elim t [ true ↦ true | false ↦ holds x ys ]))
    go ih true s p t q e = rw e
    go ih false true p true q e = rw e (last (distinct ys))
      where
        last : (d : Bool) → false ≡ (d && false)
        last true = refl
        last false = refl
    go ih false true p false q e = absurd (same_false x y q (sym (same_true y x p)))
    go ih false false p true q e = absurd (same_false y x p (sym (same_true x y q)))
    go ih false false p false q e = rw e ih

-- two lists, one behind the other
pub distinct_append : (xs ys : List Bytes) → distinct xs ≡ true → distinct ys ≡ true → ((x : Bytes) → holds x xs ≡ true → holds x ys ≡ false)
    → distinct (xs ++ ys) ≡ true
distinct_append [] ys d e h = e
distinct_append (x ∷ xs) ys d e h =
    distinct_cons x (xs ++ ys) (holds-append x xs ys ∙ or-fails (distinct_head x xs d) (h x (holds-head x x xs refl)))
    ∙ distinct_append xs ys (distinct_tail x xs d) e (λ z t. h z (holds-tail z x xs t))

pub distinct-append-left : (xs ys : List Bytes) → distinct (xs ++ ys) ≡ true → distinct xs ≡ true
unfolding distinct
distinct-append-left [] ys d = refl
distinct-append-left (x ∷ xs) ys d =
    distinct_cons x xs (or-fails-left (holds x xs) (holds x ys) (sym (holds-append x xs ys) ∙ distinct_head x (xs ++ ys) d))
    ∙ distinct-append-left xs ys (distinct_tail x (xs ++ ys) d)

pub distinct-append-right : (xs ys : List Bytes) → distinct (xs ++ ys) ≡ true → distinct ys ≡ true
distinct-append-right [] ys d = d
distinct-append-right (x ∷ xs) ys d = distinct-append-right xs ys (distinct_tail x (xs ++ ys) d)

pub distinct-append-apart : (xs ys : List Bytes) → distinct (xs ++ ys) ≡ true → (x : Bytes) → holds x xs ≡ true → holds x ys ≡ false
unfolding holds
distinct-append-apart [] ys d x h = apart (cc)
distinct-append-apart (y ∷ xs) ys d x h = go (distinct-append-apart xs ys (distinct_tail y (xs ++ ys) d) x) (holds-cases x y xs h)
  where
    go : (holds x xs ≡ true → holds x ys ≡ false) → (x ≡ y) ⊎ (holds x xs ≡ true) → holds x ys ≡ false
    go ih (inl e) = rw e (or-fails-right (holds y xs) (holds y ys) (sym (holds-append y xs ys) ∙ distinct_head y (xs ++ ys) d))
    go ih (inr t) = ih t

-- ---- all among

module _ (names : List Bytes) (x : Bytes) (xs : List Bytes) where
  pub all_among-cons : holds x names ≡ true → all_among names (x ∷ xs) ≡ all_among names xs
  unfolding all_among
  all_among-cons h = rw (h, all_among)

  pub all_among-cons-not : holds x names ≡ false → all_among names (x ∷ xs) ≡ false
  unfolding all_among
  all_among-cons-not h = rw (h, all_among)

  pub all_among-cases : all_among names (x ∷ xs) ≡ true → (holds x names ≡ true) × (all_among names xs ≡ true)
  unfolding all_among
  all_among-cases h = go (holds x names) refl h
    where
      go : (b : Bool) → holds x names ≡ b → elim b [ true ↦ all_among names xs | false ↦ false ] ≡ true → (holds x names ≡ true) × (all_among names xs ≡ true)
      go true e h = (e, h)
      go false e h = apart (cc)

pub all_among-at : (names xs : List Bytes) → all_among names xs ≡ true → (i : ℕ) → i < length xs → holds (get_or xs i []) names ≡ true
all_among-at names [] h i l = absurd (not-suc-le-zero l)
all_among-at names (x ∷ xs) h zero l = (all_among-cases names x xs h).0
all_among-at names (x ∷ xs) h (suc i) l = all_among-at names xs (all_among-cases names x xs h).1 i (le_of_suc-le-suc l)

pub all_among-of : (names xs : List Bytes) → ((i : ℕ) → i < length xs → holds (get_or xs i []) names ≡ true) → all_among names xs ≡ true
unfolding all_among
all_among-of names [] h = refl
all_among-of names (x ∷ xs) h = all_among-cons names x xs (h zero (suc-le-suc zero-le)) ∙ all_among-of names xs (λ i l. h (suc i) (suc-le-suc l))

-- the same by names in place of places
pub all_among-holds : (names xs : List Bytes) → all_among names xs ≡ true → (x : Bytes) → holds x xs ≡ true → holds x names ≡ true
all_among-holds names xs h x t = let r = holds-true x xs t in rw (← r.2) (all_among-at names xs h r.0 r.1)

pub holds-all_among : (names xs : List Bytes) → ((x : Bytes) → holds x xs ≡ true → holds x names ≡ true) → all_among names xs ≡ true
holds-all_among names xs h = all_among-of names xs (λ i l. h (get_or xs i []) (at-holds (get_or xs i []) xs i l refl))

-- ---- same_set

pub same_set-holds : (xs ys : List Bytes) → same_set xs ys ≡ true → (x : Bytes) → holds x xs ≡ holds x ys
unfolding same_set
same_set-holds xs ys h x =
    tests-equal (holds x xs) (holds x ys)
    (all_among-holds ys xs (and_left (all_among ys xs) (all_among xs ys) h) x)
    (all_among-holds xs ys (and_right (all_among ys xs) (all_among xs ys) h) x)

pub holds-same_set : (xs ys : List Bytes) → ((x : Bytes) → holds x xs ≡ holds x ys) → same_set xs ys ≡ true
unfolding same_set
holds-same_set xs ys h = and_both (holds-all_among ys xs (λ x t. sym (h x) ∙ t)) (holds-all_among xs ys (λ x t. h x ∙ t))
