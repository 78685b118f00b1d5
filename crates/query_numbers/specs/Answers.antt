-- What each answer of the crate is in the rules' terms.
use Rattle.std.specs.Prelude.{Bool, true, false, ℕ, suc, ℤ, pos, negsuc, neg_ℤ}
use Rattle.rules.specs.Query.{Number as RuleNumber, number, out_of_range, not_number}
use Rattle.query_numbers.specs.declared.Signed.{Signed}
use Rattle.std.specs.Prelude.{Result, Ok, Err}
use Rattle.query_numbers.specs.declared.NoNumber.{NoNumber}
use Rattle.query_numbers.specs.declared.NoNumber.TheVariants.{OutOfRange}
use Rattle.query_numbers.specs.declared.NoNumber.TheVariants.{NotNumber}

-- numbers by sign and size: there and back

unfoldable pub signed_as : Bool → ℕ → ℤ
signed_as true n = neg_ℤ (pos n)
signed_as false n = pos n

unfoldable pub signed_is : Signed → ℤ
signed_is s = signed_as s.negative s.size

-- zero is not negative
unfoldable pub signed_of : ℤ → Signed
signed_of (pos n) = record { negative = false; size = n }
signed_of (negsuc n) = record { negative = true; size = suc n }

unfoldable pub numeral_is : RuleNumber → Result Signed NoNumber
numeral_is (number z) = Ok (signed_of z)
numeral_is out_of_range = (Err OutOfRange)
numeral_is not_number = (Err NotNumber)
