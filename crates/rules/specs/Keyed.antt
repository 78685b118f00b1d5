-- Things in a list by their keys, which are byte strings: keys that ascend, the thing of a key, and how far a search by halves has come.
-- The paper's rules do not cite them; the promises of searches do.
use Rattle.std.specs.Prelude.{◌≡◌, true, false, List, [], ◌∷◌, ℕ, ◌≤◌, ◌<◌, length, get_or}
use Rattle.std.specs.Prelude.{Option, None, Some}
use Rattle.facts.specs.Lists.{All}
use Rattle.rules.specs.Bytes.{Bytes, less, more, order, same}

-- each key before every later one
module _ {A : Type 0} (key : A → Bytes) where
  abbrev pub Below : A → A → Type 0
  Below x y = order (key x) (key y) ≡ less

  abbrev pub Ascends : List A → Type 0
  Ascends [] = Unit {0}
  Ascends (x ∷ xs) = All (Below x) xs × Ascends xs

-- the one whose key is k
unfoldable pub lookup : {A : Type 0} → (A → Bytes) → Bytes → List A → Option A
lookup key k [] = None
lookup key k (x ∷ xs) = elim (same k (key x)) [ true ↦ Some x | false ↦ lookup key k xs ]

-- the keys before lo are below k, and those from hi on above
pub record Bracket {A : Type 0} (key : A → Bytes) (k : Bytes) (xs : List A) (d : A) (lo hi : ℕ) : Type 0 where
  pub lo-le : lo ≤ hi
  pub hi-le : hi ≤ length xs
  pub below : (j : ℕ) → j < lo → order (key (get_or xs j d)) k ≡ less
  pub above : (j : ℕ) → hi ≤ j → j < length xs → order (key (get_or xs j d)) k ≡ more
