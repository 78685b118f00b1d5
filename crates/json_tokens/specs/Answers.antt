-- What a scanner answers: a position of the text in place of the text that is left.
use Rattle.std.specs.Prelude.{◌≡◌, ℕ, ◌≤◌, length, drop}
use Rattle.std.specs.Prelude.{Option, None, Some}
use Rattle.rules.specs.Json.Text.{Text}

-- o is what a reader says of a text within s: where it is none the answer is None, and else the position of what is left, no earlier than lo
abbrev pub Answer : Option Text → (s : Text) → (lo : ℕ) → Option ℕ → Type 0
Answer o s lo (Some i) = (o ≡ Some (drop i s)) × (lo ≤ i) × (i ≤ length s)
Answer o s lo None = o ≡ None

-- the same of what may be empty: what is left begins at r
pub record Skips (rest s : Text) (at r : ℕ) : Type 0 where
  pub left : rest ≡ drop r s
  pub from : at ≤ r
  pub within : r ≤ length s
