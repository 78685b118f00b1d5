-- What is shown of a line, as the code answers it.
use Rattle.std.specs.Prelude.{ℕ, ◌+◌}
use Rattle.rules.specs.Actions.{Records, records, missing, no_add}
use Rattle.std.specs.Prelude.{Some, None, Option}

unfoldable pub shown_is : Records → Option (Option ℕ)
shown_is (records n) = (Some (Some n))
shown_is missing = (Some None)
shown_is no_add = None

-- a number of records, and a path by its start and its length: from where to where it is written
unfoldable pub adding_is : Records → (place : ℕ × ℕ) → Option (ℕ × ℕ × Option ℕ)
adding_is (records n) p = Some (p.0, p.0 + p.1, Some n)
adding_is missing p = Some (p.0, p.0 + p.1, None)
adding_is no_add p = None
