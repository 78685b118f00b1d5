-- What the readers of digits answer, in the rules' terms: as they stand, and up to 2^63 - 1.
use Rattle.std.specs.Prelude.{Option, Some}
use Rattle.std.specs.Prelude.{ℕ, leb}
use Rattle.rules.specs.Bytes.{◌>>=◌, guard}
use Rattle.rules.specs.Numbers.{most}

-- so many digits always fit a u64
abbrev pub safe_digits : ℕ
safe_digits = 19

-- the last steps of the rules' `whole`
unfoldable pub in_bounds : Option ℕ → Option ℕ
in_bounds o = do
  n ← o
  _ ← guard (leb n most)
  Some n
