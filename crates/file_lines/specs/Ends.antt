-- What the end of a line is: the first place of 0x0A from the line's beginning on, or the end of what it lies in.
use Rattle.std.specs.Prelude.{◌≡◌, ℕ, ◌≤◌, ◌<◌, get_or}
use Rattle.rules.specs.Bytes.{Bytes}

pub record EndsLine (s : Bytes) (from to r : ℕ) : Type 0 where
  pub behind : from ≤ r
  pub within : r ≤ to
  pub before : (j : ℕ) → from ≤ j → j < r → get_or s j 0 ≡ 0x0A → ⊥
  pub feed : r < to → get_or s r 0 ≡ 0x0A

-- no 0x0A from a up to i
abbrev pub Free : Bytes → (a i : ℕ) → Type 0
Free s a i = (j : ℕ) → a ≤ j → j < i → get_or s j 0 ≡ 0x0A → ⊥
