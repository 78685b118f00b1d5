-- What is asked of all names of a list, as a loop meets them: whether one is held, whether no two are the same, whether all are known.
-- On i names: the names from i on, of an array of strings or of an object.
use mathlib.Core.Path.{◌≡◌, sym, ap, ◌∙◌}
use mathlib.Core.Bool.{Bool, true, false}
use mathlib.Core.List.{List, [], ◌∷◌}
use Prim.Native.Nat.{ℕ}
use Rattle.rules.specs.Bytes.{Bytes, same, holds, distinct, all_among}
use Rattle.rules.proofs.Order.{same_true, same_false}
use Rattle.rules.proofs.Holding.{holds-head, holds-past, distinct_cons, distinct-held, all_among-cons, all_among-cons-not}

-- what f says of the names of which Whole speaks is what it says of those from i on
abbrev pub Asked : (Whole : List Bytes → Type 0) → (On : ℕ → List Bytes → Type 0) → (f : List Bytes → Bool) → (i : ℕ) → Type 0
Asked Whole On f i = (names : List Bytes) → Whole names → (left : List Bytes) × (f names ≡ f left) × On i left

-- at i is x, the last name; or x, whatever follows; or x, and more from k on
abbrev pub Last : (On : ℕ → List Bytes → Type 0) → (i : ℕ) → Bytes → Type 0
Last On i x = (left : List Bytes) → On i left → left ≡ x ∷ []

abbrev pub First : (On : ℕ → List Bytes → Type 0) → (i : ℕ) → Bytes → Type 0
First On i x = (left : List Bytes) → On i left → (more : List Bytes) × (left ≡ x ∷ more)

abbrev pub More : (On : ℕ → List Bytes → Type 0) → (i : ℕ) → Bytes → (k : ℕ) → Type 0
More On i x k = (left : List Bytes) → On i left → (more : List Bytes) × (left ≡ x ∷ more) × On k more

module _ (Whole : List Bytes → Type 0) (On : ℕ → List Bytes → Type 0) (i : ℕ) (x : Bytes) where
  module _ (f : List Bytes → Bool) (a : Asked Whole On f i) where
    asked-last : Last On i x → (names : List Bytes) → Whole names → f names ≡ f (x ∷ [])
    asked-last c names w =
        let (left, e, o) = a names w in
        e ∙ ap f (c left o)

    asked-first : First On i x → {b : Bool} → ((more : List Bytes) → f (x ∷ more) ≡ b) → (names : List Bytes) → Whole names → f names ≡ b
    asked-first c g names w =
        let (left, e, o) = a names w in
        let (more, h) = c left o in
        e ∙ ap f h ∙ g more

    module _ (k : ℕ) (c : More On i x k) where
      asked-then : {b : Bool} → ((more : List Bytes) → On k more → f (x ∷ more) ≡ b) → (names : List Bytes) → Whole names → f names ≡ b
      asked-then g names w =
          let (left, e, o) = a names w in
          let (more, h, p) = c left o in
          e ∙ ap f h ∙ g more p

      asked-more : ((more : List Bytes) → On k more → f (x ∷ more) ≡ f more) → Asked Whole On f k
      asked-more g names w =
          let (left, e, o) = a names w in
          let (more, h, p) = c left o in
          (more, e ∙ ap f h ∙ g more p, p)

  -- ---- whether y is held

  module _ (y : Bytes) (a : Asked Whole On (holds y) i) where
    pub held-here : First On i x → same y x ≡ true → (names : List Bytes) → Whole names → true ≡ holds y names
    held-here c e names w = sym (asked-first (holds y) a c (λ more. holds-head y x more (same_true y x e)) names w)

    module _ (e : same y x ≡ false) where
      pub held-last : Last On i x → (names : List Bytes) → Whole names → false ≡ holds y names
      unfolding holds
      held-last c names w = sym (asked-last (holds y) a c names w ∙ holds-past y x [] (same_false y x e))

      pub held_more : (k : ℕ) → More On i x k → Asked Whole On (holds y) k
      held_more k c = asked-more (holds y) a k c (λ more o. holds-past y x more (same_false y x e))

  -- ---- whether no two are the same

  module _ (a : Asked Whole On distinct i) where
    pub distinct-last : Last On i x → (names : List Bytes) → Whole names → true ≡ distinct names
    unfolding distinct holds
    distinct-last c names w = sym (asked-last distinct a c names w)

    -- r says whether x is held further on
    module _ (k : ℕ) (c : More On i x k) (r : Bool) (h : (more : List Bytes) → On k more → r ≡ holds x more) where
      pub distinct-twice : r ≡ true → (names : List Bytes) → Whole names → false ≡ distinct names
      distinct-twice e names w = sym (asked-then distinct a k c (λ more o. distinct-held x more (sym (h more o) ∙ e)) names w)

      pub distinct_more : r ≡ false → Asked Whole On distinct k
      distinct_more e = asked-more distinct a k c (λ more o. distinct_cons x more (sym (h more o) ∙ e))

  -- ---- whether all are among those that are known

  module _ (known : List Bytes) (a : Asked Whole On (all_among known) i) where
    pub known-not : First On i x → holds x known ≡ false → (names : List Bytes) → Whole names → false ≡ all_among known names
    known-not c e names w = sym (asked-first (all_among known) a c (λ more. all_among-cons-not known x more e) names w)

    module _ (e : holds x known ≡ true) where
      pub known-last : Last On i x → (names : List Bytes) → Whole names → true ≡ all_among known names
      unfolding all_among
      known-last c names w = sym (asked-last (all_among known) a c names w ∙ all_among-cons known x [] e)

      pub known_more : (k : ℕ) → More On i x k → Asked Whole On (all_among known) k
      known_more k c = asked-more (all_among known) a k c (λ more o. all_among-cons known x more e)
