-- Laws of the elements that pass a test: lists joined and mapped, and the moves of those that are kept to the front.
use mathlib.Core.Path.{◌≡◌, refl, sym, ap, ◌∙◌}
use mathlib.Core.Bool.{Bool, true, false}
use mathlib.Core.List.{List, [], ◌∷◌, ◌++◌}
use Prim.Native.Nat.{ℕ, ◌+◌, ◌≤◌, ◌<◌}
use native.Mathlib.Omega.{arith}
use lib.ListN.{length, take, get_or, set, length-set}
use lib.Seq.{take-length, drop-set-lt}
use Rattle.facts.specs.Kept.{kept, Compacting}
use Rattle.facts.proofs.Lists.{take-one-more, take-set-here, get_d-behind, drop-later}

module _ {A : Type 0} (test : A → Bool) where
  kept_cons : (x : A) (xs : List A) → test x ≡ true → kept test (x ∷ xs) ≡ x ∷ kept test xs
  unfolding kept
  kept_cons x xs e = rw (kept, e)

  kept-past : (x : A) (xs : List A) → test x ≡ false → kept test (x ∷ xs) ≡ kept test xs
  unfolding kept
  kept-past x xs e = rw (kept, e)

  -- ---- one element more at the end

  kept-last : (xs : List A) (x : A) → test x ≡ true → kept test (xs ++ (x ∷ [])) ≡ kept test xs ++ (x ∷ [])
  unfolding kept
  kept-last [] x e = rw (kept, e)
  kept-last (y ∷ ys) x e = go (kept-last ys x e) (test y) refl
    where
      go : kept test (ys ++ (x ∷ [])) ≡ kept test ys ++ (x ∷ []) → (b : Bool) → test y ≡ b → kept test (y ∷ (ys ++ (x ∷ []))) ≡ kept test (y ∷ ys) ++ (x ∷ [])
      go ih true f = kept_cons y (ys ++ (x ∷ [])) f ∙ ap (λ (l : List A). y ∷ l) ih ∙ ap (λ (l : List A). l ++ (x ∷ [])) (sym (kept_cons y ys f))
      go ih false f = kept-past y (ys ++ (x ∷ [])) f ∙ ih ∙ ap (λ (l : List A). l ++ (x ∷ [])) (sym (kept-past y ys f))

  kept-not-last : (xs : List A) (x : A) → test x ≡ false → kept test (xs ++ (x ∷ [])) ≡ kept test xs
  unfolding kept
  kept-not-last [] x e = rw (kept, e)
  kept-not-last (y ∷ ys) x e = go (kept-not-last ys x e) (test y) refl
    where
      go : kept test (ys ++ (x ∷ [])) ≡ kept test ys → (b : Bool) → test y ≡ b → kept test (y ∷ (ys ++ (x ∷ []))) ≡ kept test (y ∷ ys)
      go ih true f = kept_cons y (ys ++ (x ∷ [])) f ∙ ap (λ (l : List A). y ∷ l) ih ∙ sym (kept_cons y ys f)
      go ih false f = kept-past y (ys ++ (x ∷ [])) f ∙ ih ∙ sym (kept-past y ys f)

  -- ---- moved to the front

  pub compacting-start : (xs : List A) → Compacting test xs xs 0 0
  unfolding kept
  compacting-start xs = record { few = omega arith; front = refl; rest = refl; size = refl }

  module _ {xs ys : List A} {k m : ℕ} (d : A) (c : Compacting test xs ys k m) (h : k < length xs) where
    same-element : get_or ys k d ≡ get_or xs k d
    same-element = get_d-behind k k d ys xs (omega arith) c.rest

    pub compacting-past : test (get_or ys k d) ≡ false → Compacting test xs ys (k + 1) m
    compacting-past e = record {
      few = let l : m ≤ k = c.few in omega arith;
      front = c.front ∙ sym (ap (kept test) (take-one-more xs k d h) ∙ kept-not-last (take k xs) (get_or xs k d) (ap test (sym same-element) ∙ e));
      rest = drop-later k (k + 1) ys xs (omega arith) c.rest;
      size = c.size;
    }

    pub compacting-keep : test (get_or ys k d) ≡ true → Compacting test xs (set ys m (get_or ys k d)) (k + 1) (m + 1)
    compacting-keep e =
        let l : m ≤ k = c.few in
        let n : length ys ≡ length xs = c.size in
        record {
          few = omega arith;
          front =
              take-set-here ys m (get_or ys k d) (omega arith)
              ∙ ap (λ (l : List A). l ++ (get_or ys k d ∷ [])) c.front
              ∙ ap (λ (x : A). kept test (take k xs) ++ (x ∷ [])) same-element
              ∙ sym (ap (kept test) (take-one-more xs k d h) ∙ kept-last (take k xs) (get_or xs k d) (ap test (sym same-element) ∙ e));
          rest = drop-set-lt (k + 1) ys m (get_or ys k d) (omega arith) ∙ drop-later k (k + 1) ys xs (omega arith) c.rest;
          size = length-set ys m (get_or ys k d) ∙ n;
        }

  pub compacting-end : {xs ys : List A} {k m : ℕ} → Compacting test xs ys k m → k ≡ length xs → take m ys ≡ kept test xs
  compacting-end {xs} c e = c.front ∙ ap (λ (n : ℕ). kept test (take n xs)) e ∙ ap (kept test) (take-length xs)
