-- The words of a condition as the code answers them.
use Rattle.std.specs.Prelude.{false}
use Rattle.std.specs.Prelude.{Option, None, Some}
use Rattle.rules.specs.Bytes.{Bytes}
use Rattle.rules.specs.Query.{Number as RuleNumber, number, out_of_range, not_number, number_of}
use Rattle.rules.specs.Query.{As as RuleAs, as_text, as_number, Op as RuleOp, eq, lt, le, gt, ge}
use Rattle.query_numbers.specs.Answers.{signed_of}
use Rattle.query_numbers.specs.declared.Signed.{Signed}
use Rattle.query_conditions.specs.declared.words.As.{As}
use Rattle.query_conditions.specs.declared.words.As.TheVariants.{Text, Number}
use Rattle.query_conditions.specs.declared.words.Op.{Op}
use Rattle.query_conditions.specs.declared.words.Op.TheVariants.{Eq, Lt, Le, Gt, Ge}

unfoldable pub as_is : As → RuleAs
as_is Text = as_text
as_is Number = as_number

unfoldable pub kind_is : Option RuleAs → Option As
kind_is None = None
kind_is (Some as_text) = Some Text
kind_is (Some as_number) = Some Number

unfoldable pub op_is : Op → RuleOp
op_is Eq = eq
op_is Lt = lt
op_is Le = le
op_is Gt = gt
op_is Ge = ge

unfoldable pub operator_is : Option RuleOp → Option Op
operator_is None = None
operator_is (Some eq) = Some Eq
operator_is (Some lt) = Some Lt
operator_is (Some le) = Some Le
operator_is (Some gt) = Some Gt
operator_is (Some ge) = Some Ge

abbrev pub zero : Signed
zero = record { negative = false; size = 0 }

unfoldable pub fit_by : RuleNumber → Option Signed
fit_by (number z) = Some (signed_of z)
fit_by out_of_range = None
fit_by not_number = None

-- a value under a kind: under "number" its number, if it is one
unfoldable pub fit_is : RuleAs → Bytes → Option Signed
fit_is as_text v = Some zero
fit_is as_number v = fit_by (number_of v)
