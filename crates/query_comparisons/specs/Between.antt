-- Whether no value between two bounds meets a condition, by orders and by numerals as the code has them.
use Rattle.std.specs.Prelude.{Bool, true, false}
use Rattle.rules.specs.Bytes.{Order, is_more}
use Rattle.rules.specs.Query.{Op}
use Rattle.rules.specs.Picking.{order_of_numbers}
use Rattle.rules.specs.Manifests.{none_meets, outside}
use Rattle.query_numbers.specs.Answers.{signed_is}
use Rattle.query_numbers.specs.declared.Signed.{Signed}
use Rattle.std.specs.Prelude.{Result, Ok, Err}
use Rattle.query_numbers.specs.declared.NoNumber.{NoNumber}
use Rattle.query_numbers.specs.declared.NoNumber.TheVariants.{OutOfRange}
use Rattle.query_numbers.specs.declared.NoNumber.TheVariants.{NotNumber}

-- how the least stands to the greatest, and each of the two to the condition's own value
unfoldable pub outside_by : Op → (between least greatest : Order) → Bool
outside_by op between least greatest = elim (is_more between) [ true ↦ false | false ↦ none_meets op least greatest ]

unfoldable pub outside_numerals : Op → (bound : Signed) → (least greatest : Result Signed NoNumber) → Bool
outside_numerals op b (Ok lo) (Ok hi) = outside order_of_numbers op (signed_is b) (signed_is lo) (signed_is hi)
outside_numerals op b (Ok lo) (Err OutOfRange) = false
outside_numerals op b (Ok lo) (Err NotNumber) = false
outside_numerals op b (Err OutOfRange) hi = false
outside_numerals op b (Err NotNumber) hi = false
