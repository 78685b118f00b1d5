-- The names of a condition's members: how many there are, and which of `as` and `value` is met first.
use Rattle.std.specs.Prelude.{Bool, true, false, ◌&&◌, List, [], ◌∷◌, eqb, length}
use Rattle.std.specs.Prelude.{Option, None, Some}
use Rattle.rules.specs.Bytes.{Bytes, ascii, same, firsts}
use Rattle.rules.specs.Query.{stands}
use Rattle.rules.specs.Json.Text.{Text}
use Rattle.rules.specs.Json.Values.{Member}
use Rattle.query_conditions.specs.declared.members.First.{First}
use Rattle.query_conditions.specs.declared.members.First.TheVariants.{As}
use Rattle.query_conditions.specs.declared.members.First.TheVariants.{Value}

unfoldable pub met_in : List Bytes → Option First
met_in [] = None
met_in (n ∷ ns) = elim (same n (ascii "as")) [ true ↦ (Some As) | false ↦ elim (same n (ascii "value")) [ true ↦ (Some Value) | false ↦ met_in ns ] ]

unfoldable pub or_else : Option First → Option First → Option First
or_else None later = later
or_else (Some As) later = (Some As)
or_else (Some Value) later = (Some Value)

unfoldable pub is_as : Option First → Bool
is_as None = false
is_as (Some As) = true
is_as (Some Value) = false

-- four members in all, `as` before `value`
unfoldable pub ordered : List Member → Bool
ordered ms = eqb (length ms) 4 && stands (ascii "as") (ascii "value") (firsts ms)

-- the same of an object that was read
unfoldable pub in_order : Option (List Member × Text) → Bool
in_order None = false
in_order (Some p) = ordered p.0
