-- A condition by the places of its strings in the query.
use Rattle.std.specs.Prelude.{◌≡◌, ℕ, ◌+◌, ◌≤◌, length, drop}
use Rattle.std.specs.Prelude.{Option, None, Some}
use Rattle.rules.specs.Bytes.{Bytes, ◌>>=◌, guard}
use Rattle.rules.specs.Actions.{in_action}
use Rattle.rules.specs.Json.Text.{Text, Taker, byte}
use Rattle.rules.specs.Json.Values.{contents, value}
use Rattle.rules.specs.Query.{Condition as RuleCondition, as_of, op_of, fits, condition_in}
use Rattle.query_conditions.specs.Words.{op_is, as_is, fit_is}
use Rattle.json_strings.specs.Decoded.{decoded, WellSpelled}
use Rattle.query_conditions.specs.declared.conditions.Condition.{Condition}

-- ---- a condition as the code has it

abbrev pub condition_of : Text → Condition → RuleCondition
condition_of q c = record {
  column = decoded (drop c.column q);
  kind = as_is c.kind;
  op = op_is c.op;
  bound = decoded (drop c.bound q);
}

-- its strings are spelled in the query, and its number is that of its own value under its kind
pub record Sound (q : Text) (c : Condition) : Type 0 where
  pub column : WellSpelled q c.column
  pub bound : WellSpelled q c.bound
  pub number : Some c.number ≡ fit_is (as_is c.kind) (decoded (drop c.bound q))

-- ---- the last steps of the rules' `condition_in`

-- by the strings of its fields
unfoldable pub condition_from : (column kind op value : Bytes) → Option RuleCondition
condition_from column a o v = do
  kind ← as_of a
  op ← op_of o
  _ ← guard (fits kind v)
  Some (record { column = column; kind = kind; op = op; bound = v })

unfoldable pub condition_by : (column kind op value : Option Bytes) → Option RuleCondition
condition_by c a o v = do
  column ← c
  kind ← a
  op ← o
  value ← v
  condition_from column kind op value

-- ---- what is answered

abbrev pub MadeIs : Option RuleCondition → Text → Option Condition → Type 0
MadeIs o q (Some c) = Sound q c × (o ≡ Some (condition_of q c))
MadeIs o q None = o ≡ None

-- a condition, where the text of its object begins: what the rules say of it in two steps, the text of a value and what the text is
unfoldable pub condition_read : Taker RuleCondition
condition_read t = do
  r ← byte 0x7B t
  (ms, u) ← contents (value in_action) r
  c ← condition_in ms
  Some (c, u)

pub record Stands (o : Option (RuleCondition × Text)) (q : Text) (at : ℕ) (c : Condition) (end : ℕ) : Type 0 where
  pub sound : Sound q c
  pub read : o ≡ Some (condition_of q c, drop end q)
  pub from : at + 1 ≤ end
  pub within : end ≤ length q

abbrev pub ElementIs : Option (RuleCondition × Text) → Text → (at : ℕ) → Option (Condition × ℕ) → Type 0
ElementIs o q at (Some (c, end)) = Stands o q at c end
ElementIs o q at None = o ≡ None
