-- What a list is after some of its elements were written over, in place. Every move is a writing, so that the laws of
-- writing are laws of all; and rows move as the numbers do that they lie in. Each means what it says where the list is
-- long enough.
use Rattle.std.specs.Prelude.{ℕ, suc, ◌+◌, ◌-◌, List, [], ◌∷◌, ◌++◌, length, take, drop, set, replicate}
use Rattle.facts.specs.Parts.{part}

module _ {A : Type 0} where
  -- vs written over t from place `at` on
  unfoldable pub put_at : ℕ → List A → List A → List A
  put_at at vs t = take at t ++ (vs ++ drop (at + length vs) t)

  -- vs stored over t one by one, at the places at + i, at + (i + 1) and so on: a row written field by field
  unfoldable pub stores : List A → ℕ → ℕ → List A → List A
  stores t at i [] = t
  stores t at i (v ∷ vs) = stores (set t (at + i) v) at (suc i) vs

  -- the m elements from place `at` on written again `by` places further up
  unfoldable pub moved_up : ℕ → ℕ → ℕ → List A → List A
  moved_up at m by t = put_at (at + by) (part t at (at + m)) t

  -- the m elements that stand `by` places above `at` written again from `at` on
  unfoldable pub moved_down : ℕ → ℕ → ℕ → List A → List A
  moved_down at m by t = put_at at (part t (at + by) (at + by + m)) t

-- zeros from place a up to place b; the other numbers as they were
unfoldable pub zeroed : ℕ → ℕ → List ℕ → List ℕ
zeroed a b t = put_at a (replicate (b - a) 0) t
