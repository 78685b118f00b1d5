-- The query: a JSON array of at most 8 conditions on partition columns, and the numbers that conditions read.
use Rattle.std.specs.Prelude.{Bool, true, false, List, [], ◌∷◌, map, ℕ, suc, leb, eqb, length, ℤ, pos, neg_ℤ}
use Rattle.std.specs.Prelude.{Option, None, Some}
use Rattle.rules.specs.Bytes.{Bytes, ascii, ◌>>=◌, guard, first, same, distinct, firsts}
use Rattle.rules.specs.Numbers.{decimal, most}
use Rattle.rules.specs.Json.Text.{Text}
use Rattle.rules.specs.Json.Values.{Member, object_of, array_of}
use Rattle.rules.specs.Json.Fields.{string_at}
use Rattle.rules.specs.Actions.{in_line, in_action}

-- ---- numbers: an optional minus and 1 to 20 decimal digits, zeros in front allowed, from -2^63 to 2^63 - 1

-- a text of that shape may still be out of range
pub data Number : Type 0 where
  number : ℤ → Number
  out_of_range : Number
  not_number : Number

unfoldable pub most_digits : ℕ
most_digits = 20

unfoldable pub in_range : Bool → ℤ → Number
in_range true z = number z
in_range false z = out_of_range

-- by the value of the digits, none where they are not 1 to 20 digits
unfoldable pub positive : Option ℕ → Number
positive None = not_number
positive (Some n) = in_range (leb n most) (pos n)

unfoldable pub negative : Option ℕ → Number
negative None = not_number
negative (Some n) = in_range (leb n (suc most)) (neg_ℤ (pos n))

unfoldable pub digits_in : Bytes → Option ℕ
digits_in s = do
  _ ← guard (leb (length s) most_digits)
  decimal s

unfoldable pub number_of : Bytes → Number
number_of [] = not_number
number_of (b ∷ s) = elim (eqb b 0x2D) [ true ↦ negative (digits_in s) | false ↦ positive (digits_in (b ∷ s)) ]

unfoldable pub is_number : Number → Bool
is_number (number z) = true
is_number out_of_range = false
is_number not_number = false

unfoldable pub is_out_of_range : Number → Bool
is_out_of_range (number z) = false
is_out_of_range out_of_range = true
is_out_of_range not_number = false

-- ---- conditions

pub data As : Type 0 where
  as_text as_number : As

pub data Op : Type 0 where
  eq lt le gt ge : Op

pub record Condition : Type 0 where
  pub column : Bytes
  pub kind : As
  pub op : Op
  pub bound : Bytes

unfoldable pub as_of : Bytes → Option As
as_of t = first ((same t (ascii "text"), Some as_text) ∷ (same t (ascii "number"), Some as_number) ∷ []) None

unfoldable pub op_of : Bytes → Option Op
op_of t =
    first
    ((same t (ascii "eq"), Some eq)
    ∷ (same t (ascii "lt"), Some lt)
    ∷ (same t (ascii "le"), Some le)
    ∷ (same t (ascii "gt"), Some gt)
    ∷ (same t (ascii "ge"), Some ge)
    ∷ [])
    None

-- a `value` under "number" must be one
unfoldable pub fits : As → Bytes → Bool
fits as_text v = true
fits as_number v = is_number (number_of v)

-- of the names, x is met before y
unfoldable pub stands : (x y : Bytes) → List Bytes → Bool
stands x y [] = false
stands x y (n ∷ ns) = elim (same n x) [ true ↦ true | false ↦ elim (same n y) [ true ↦ false | false ↦ stands x y ns ] ]

-- column, as, op, value, all strings, each once, `as` before `value`, no others: four members in all
unfoldable pub condition_in : List Member → Option Condition
condition_in ms = do
  _ ← guard (eqb (length ms) 4)
  _ ← guard (stands (ascii "as") (ascii "value") (firsts ms))
  column ← string_at "column" ms
  a ← string_at "as" ms
  o ← string_at "op" ms
  v ← string_at "value" ms
  kind ← as_of a
  op ← op_of o
  _ ← guard (fits kind v)
  Some (record { column = column; kind = kind; op = op; bound = v })

unfoldable pub conditions_in : List Text → Option (List Condition)
conditions_in [] = Some []
conditions_in (v ∷ vs) = do
  ms ← object_of in_action v
  c ← condition_in ms
  cs ← conditions_in vs
  Some (c ∷ cs)

unfoldable pub column_of : Condition → Bytes
column_of c = c.column

unfoldable pub most_query : ℕ
most_query = 4_096

unfoldable pub most_conditions : ℕ
most_conditions = 8

-- none where the query is malformed
unfoldable pub query : Bytes → Option (List Condition)
query s = do
  _ ← guard (leb (length s) most_query)
  vs ← array_of in_line s
  _ ← guard (leb (length vs) most_conditions)
  cs ← conditions_in vs
  _ ← guard (distinct (map column_of cs))
  Some cs
