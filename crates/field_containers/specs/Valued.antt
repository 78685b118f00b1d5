-- Members whose texts are values: so are those of every object that was read.
use Rattle.std.specs.Prelude.{◌≡◌, List, [], ◌∷◌, ℕ}
use Rattle.std.specs.Prelude.{Some}
use Rattle.rules.specs.Json.Values.{Member, value}

-- values that nest at most d deep
abbrev pub Valued : (d : ℕ) → List Member → Type 0
Valued d [] = Unit {0}
Valued d (m ∷ ms) = (value d m.1 ≡ Some []) × Valued d ms
