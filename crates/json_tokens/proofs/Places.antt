-- A text at a position: its byte there and what follows, or nothing; and answers seen from an earlier position.
use mathlib.Core.Path.{◌≡◌, ◌∙◌}
use Rattle.std.specs.Prelude.{Option}
use mathlib.Core.List.{[], ◌∷◌}
use Prim.Native.Nat.{ℕ, ◌+◌, ◌≤◌, ◌<◌}
use native.Mathlib.Nat.{le_trans}
use lib.ListN.{length, drop, get_or, drop_of_length-le}
use Rattle.facts.proofs.Lists.{drop_here, drop-is}
use Rattle.rules.specs.Json.Text.{Text}
use Rattle.json_tokens.specs.Answers.{Answer}
use Rattle.std.specs.Prelude.{Some, None}

-- the text from i on is its byte at i and the text from i + 1 on
pub here : (s : Text) (i : ℕ) → i < length s → drop i s ≡ get_or s i 0 ∷ drop (i + 1) s
here s i h = drop_here s i 0 h

-- the same at a byte that is known
pub here-is : (s : Text) (i b : ℕ) → i < length s → get_or s i 0 ≡ b → drop i s ≡ b ∷ drop (i + 1) s
here-is s i b h e = drop-is s i 0 b h e

pub ended : (s : Text) (i : ℕ) → length s ≤ i → drop i s ≡ []
ended s i h = drop_of_length-le s h

-- an answer from further on, where the reader says the same
pub answer-from : (o o' : Option Text) (s : Text) (lo lo' : ℕ) (r : Option ℕ) → Answer o s lo r → lo' ≤ lo → o' ≡ o → Answer o' s lo' r
answer-from o o' s lo lo' (Some i) a h e = (e ∙ a.0, le_trans h a.1, a.2)
answer-from o o' s lo lo' None a h e = e ∙ a
