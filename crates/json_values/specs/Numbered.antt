-- What a scanner answers by a plain number: the position behind what it read, which is never 0, or 0.
use Rattle.std.specs.Prelude.{◌≡◌, ℕ, ◌<◌}
use Rattle.std.specs.Prelude.{Option, None}
use Rattle.rules.specs.Json.Text.{Text}
use Rattle.json_tokens.specs.Answers.{Answer}
use Rattle.std.specs.Prelude.{Some}

-- o is what a reader says of a text within s: r, unless it is 0, is the position of what is left, no earlier than lo
abbrev pub Found : Option Text → (s : Text) → (lo r : ℕ) → Type 0
Found o s lo r = 0 < r → Answer o s lo (Some r)

-- the same, and r is 0 only where o is none
pub record Numbered (o : Option Text) (s : Text) (lo r : ℕ) : Type 0 where
  pub nothing : r ≡ 0 → o ≡ None
  pub found : Found o s lo r
