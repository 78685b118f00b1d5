-- Digits cut off above 2^63, in the rules' terms.
use Rattle.std.specs.Prelude.{Bool, true, false, ℕ, suc, leb}
use Rattle.std.specs.Prelude.{Option, None, Some}
use Rattle.rules.specs.Numbers.{most}
use Rattle.std.specs.Prelude.{Result, Ok, Err}
use Rattle.query_numbers.specs.declared.NoNumber.{NoNumber}
use Rattle.query_numbers.specs.declared.NoNumber.TheVariants.{OutOfRange}
use Rattle.query_numbers.specs.declared.NoNumber.TheVariants.{NotNumber}

unfoldable pub capped : Bool → ℕ → Result ℕ NoNumber
capped true n = Ok n
capped false n = (Err OutOfRange)

unfoldable pub capped_is : Option ℕ → Result ℕ NoNumber
capped_is None = (Err NotNumber)
capped_is (Some n) = capped (leb n (suc most)) n
