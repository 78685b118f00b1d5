-- Which files a query picks: a function of a file's facts alone. And whether a live file has a value out of range under it.
use Rattle.std.specs.Prelude.{Bool, true, false, not, List, [], ◌∷◌, ℤ}
use Rattle.std.specs.Prelude.{Option, None, Some}
use Rattle.std.specs.Int.Signed.{lt_z}
use Rattle.rules.specs.Bytes.{Bytes, same, Order, less, equal, more, order, is_less, is_equal, is_more, keep_if}
use Rattle.rules.specs.Actions.{Facts, Pairs}
use Rattle.rules.specs.Live.{Row}
use Rattle.rules.specs.Query.{Number, number, out_of_range, not_number, number_of, is_out_of_range, As, as_text, as_number, Op, eq, lt, le, gt, ge, Condition}

-- ---- one value

-- a value that stands so to the condition's own meets the condition
unfoldable pub meets : Op → Order → Bool
meets eq o = is_equal o
meets lt o = is_less o
meets le o = not (is_more o)
meets gt o = is_more o
meets ge o = not (is_less o)

unfoldable pub order_of_numbers : ℤ → ℤ → Order
order_of_numbers a b = elim (lt_z a b) [ true ↦ less | false ↦ elim (lt_z b a) [ true ↦ more | false ↦ equal ] ]

-- an unreadable value meets none
unfoldable pub meets_number : Op → (value bound : Number) → Bool
meets_number op (number x) (number b) = meets op (order_of_numbers x b)
meets_number op (number x) out_of_range = false
meets_number op (number x) not_number = false
meets_number op out_of_range b = false
meets_number op not_number b = false

unfoldable pub meets_as : As → Op → (value bound : Bytes) → Bool
meets_as as_text op x b = meets op (order x b)
meets_as as_number op x b = meets_number op (number_of x) (number_of b)

-- ---- a file

-- the value of a column: none where the column is missing, some none where it is null
unfoldable pub value_at : Bytes → Pairs → Option (Option Bytes)
value_at column [] = None
value_at column (p ∷ ps) = elim (same column p.0) [ true ↦ Some p.1 | false ↦ value_at column ps ]

-- a missing or null value meets none
unfoldable pub meets_value : Condition → Option (Option Bytes) → Bool
meets_value c None = false
meets_value c (Some None) = false
meets_value c (Some (Some x)) = meets_as c.kind c.op x c.bound

unfoldable pub meets_all : List Condition → Facts → Bool
meets_all [] f = true
meets_all (c ∷ cs) f = elim (meets_value c (value_at c.column f.partition_values)) [ true ↦ meets_all cs f | false ↦ false ]

-- a file is picked when it meets every condition
unfoldable pub picked : List Condition → List Row → List Row
picked cs [] = []
picked cs (r ∷ rs) = keep_if (meets_all cs r.facts) r (picked cs rs)

-- ---- values out of range

-- under a condition that reads numbers; a text is never out of range
unfoldable pub out_of_as : As → Bytes → Bool
out_of_as as_text x = false
out_of_as as_number x = is_out_of_range (number_of x)

-- a missing or null value is not out of range
unfoldable pub out_of : Condition → Option (Option Bytes) → Bool
out_of c None = false
out_of c (Some None) = false
out_of c (Some (Some x)) = out_of_as c.kind x

-- of some condition, whether the others are met or not
unfoldable pub any_out_of : List Condition → Facts → Bool
any_out_of [] f = false
any_out_of (c ∷ cs) f = elim (out_of c (value_at c.column f.partition_values)) [ true ↦ true | false ↦ any_out_of cs f ]

-- no file has one, picked or not
unfoldable pub in_range_all : List Condition → List Row → Bool
in_range_all cs [] = true
in_range_all cs (r ∷ rs) = elim (any_out_of cs r.facts) [ true ↦ false | false ↦ in_range_all cs rs ]
