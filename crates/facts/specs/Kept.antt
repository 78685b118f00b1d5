-- The elements of a list that pass a test, and a list in which they are moved to the front, one after the other.
use Rattle.std.specs.Prelude.{◌≡◌, Bool, true, false, List, [], ◌∷◌, ℕ, ◌≤◌, length, take, drop}

unfoldable pub kept : {A : Type 0} → (A → Bool) → List A → List A
kept test [] = []
kept test (x ∷ xs) = elim (test x) [ true ↦ x ∷ kept test xs | false ↦ kept test xs ]

-- of the list xs, which has become ys, k elements are passed, and those of them that are kept are the first m
pub record Compacting {A : Type 0} (test : A → Bool) (xs ys : List A) (k m : ℕ) : Type 0 where
  pub few : m ≤ k
  pub front : take m ys ≡ kept test (take k xs)
  pub rest : drop k ys ≡ drop k xs
  pub size : length ys ≡ length xs
