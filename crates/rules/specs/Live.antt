-- The live set: rows in the byte order of their paths, one for each path.
use Rattle.std.specs.Prelude.{Bool, true, false, List, [], ◌∷◌, ℕ}
use Rattle.rules.specs.Bytes.{Bytes, Order, less, equal, more, order, same}
use Rattle.rules.specs.Actions.{Facts, Skip}

-- a live file: where the line of its add stands in the bundle, how long the line is, its facts, and what was said of it since
pub record Row : Type 0 where
  pub at : ℕ
  pub size : ℕ
  pub facts : Facts
  pub skip : Skip

-- more than this many live after a line is refused
unfoldable pub most_live : ℕ
most_live = 1_024

unfoldable pub path_of : Row → Bytes
path_of r = r.facts.path

-- the same file with this skip
unfoldable pub skipped : Skip → Row → Row
skipped s r = record { at = r.at; size = r.size; facts = r.facts; skip = s }

-- ---- things in the order of their keys, as rows are in the order of their paths

-- how r goes in beside the first of the others, x, when its key stands so to x's
unfoldable pub put_beside : {A : Type 0} → Order → A → A → List A → (Unit {0} → List A) → List A
put_beside less r x xs further = r ∷ x ∷ xs
put_beside equal r x xs further = r ∷ xs
put_beside more r x xs further = x ∷ further tt

unfoldable pub take_if : {A : Type 0} → Bool → A → List A → (Unit {0} → List A) → List A
take_if true x xs further = xs
take_if false x xs further = x ∷ further tt

unfoldable pub change_if : {A : Type 0} → Bool → (A → A) → A → List A → (Unit {0} → List A) → List A
change_if true f x xs further = f x ∷ xs
change_if false f x xs further = x ∷ further tt

module _ {A : Type 0} (key : A → Bytes) where
  -- an add puts its path into the live set or replaces the entry there
  unfoldable pub put : A → List A → List A
  put r [] = r ∷ []
  put r (x ∷ xs) = put_beside (order (key r) (key x)) r x xs (λ _. put r xs)

  -- a remove takes its path out, if there
  unfoldable pub take_out : Bytes → List A → List A
  take_out k [] = []
  take_out k (x ∷ xs) = take_if (same k (key x)) x xs (λ _. take_out k xs)

  -- a mergeskip changes the entry of its path, if there
  unfoldable pub change : Bytes → (A → A) → List A → List A
  change k f [] = []
  change k f (x ∷ xs) = change_if (same k (key x)) f x xs (λ _. change k f xs)
