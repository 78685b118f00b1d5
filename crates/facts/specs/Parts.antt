-- A part of a list, by the places where it begins and ends: how code names a line, a value or a name of a text.
use Rattle.std.specs.Prelude.{ℕ, ◌-◌, List, take, drop}

-- the elements of s from place a up to place b, which is no part of it; none where b ≤ a
unfoldable pub part : {A : Type 0} → List A → ℕ → ℕ → List A
part s a b = take (b - a) (drop a s)
