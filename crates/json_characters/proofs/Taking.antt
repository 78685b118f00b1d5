-- Answers of a scanner that reads a number, seen from an earlier position.
use mathlib.Core.Path.{◌≡◌, ◌∙◌}
use Rattle.std.specs.Prelude.{Option}
use Prim.Native.Nat.{ℕ, ◌≤◌}
use native.Mathlib.Nat.{le_trans}
use Rattle.rules.specs.Json.Text.{Text}
use Rattle.json_characters.specs.Codes.{Taken}
use Rattle.std.specs.Prelude.{Some, None}

pub taken-from : (o o' : Option (ℕ × Text)) (s : Text) (lo lo' hi : ℕ) (r : Option (ℕ × ℕ)) → Taken o s lo hi r → lo' ≤ lo → o' ≡ o → Taken o' s lo' hi r
taken-from o o' s lo lo' hi (Some (x, i)) a h e = (e ∙ a.0, le_trans h a.1, a.2, a.3)
taken-from o o' s lo lo' hi None a h e = e ∙ a
