-- A whole query as the code has it.
use Rattle.std.specs.Prelude.{◌≡◌, List, map, ℕ, ◌≤◌, ◌<◌, leb, length, take, drop, get_or, replicate}
use Rattle.std.specs.Prelude.{Option, None, Some}
use Rattle.rules.specs.Bytes.{Bytes, ◌>>=◌, guard}
use Rattle.rules.specs.Json.Text.{Text}
use Rattle.rules.specs.Query.{Condition as RuleCondition, column_of, most_conditions, query}
use Rattle.json_strings.specs.Decoded.{decoded}
use Rattle.query_conditions.specs.declared.words.Op.TheVariants.{Eq}
use Rattle.query_conditions.specs.Words.{zero}
use Rattle.query_conditions.specs.Conditions.{condition_of, Sound}
use Rattle.query_conditions.specs.declared.words.As.TheVariants.{Text as AsText}
use Rattle.query_conditions.specs.declared.conditions.Condition.{Condition}
use Rattle.query_conditions.specs.declared.reading.Query.{Query}
use Rattle.query_conditions.specs.declared.reading.Gathered.{Gathered}

-- what stands where there is no condition
abbrev pub no_condition : Condition
no_condition = record { column = 0; kind = AsText; op = Eq; bound = 0; number = zero }

-- the first n conditions in the rules' terms, and their columns
unfoldable pub conditions_of : Text → (n : ℕ) → List Condition → List RuleCondition
conditions_of q n cs = map (condition_of q) (take n cs)

unfoldable pub columns_of : Text → (n : ℕ) → List Condition → List Bytes
columns_of q n cs = map column_of (conditions_of q n cs)

-- the columns that are spelled at these positions
unfoldable pub names_at : Text → List ℕ → List Bytes
names_at q ps = map (λ (p : ℕ). decoded (drop p q)) ps

-- there are n at most, and all of them are sound
pub record Sounds (q : Text) (n : ℕ) (cs : List Condition) : Type 0 where
  pub few : n ≤ 8
  pub each : (k : ℕ) → k < n → Sound q (get_or cs k no_condition)

-- and nothing stands behind them
pub record Held (q : Text) (n : ℕ) (cs : List Condition) : Type 0 where
  pub sounds : Sounds q n cs
  pub rest : drop n cs ≡ drop n (replicate 8 no_condition)

-- ---- the array of a query

-- what was read, where it is 8 conditions at most
abbrev pub few_of : Option (List RuleCondition × Text) → Option (List RuleCondition × Text)
few_of o = o >>= (λ p. guard (leb (length p.0) most_conditions) >>= (λ _. Some p))

pub record Array (o : Option (List RuleCondition × Text)) (q : Text) (end n : ℕ) (cs : List Condition) : Type 0 where
  pub size : length cs ≡ 8
  pub held : Held q n cs
  pub all : o ≡ Some (conditions_of q n cs, drop end q)
  pub within : end ≤ length q

abbrev pub GatheredIs : Option (List RuleCondition × Text) → Text → Option Gathered → Type 0
GatheredIs o q (Some r) = Array o q r.end r.query.count r.query.conditions
GatheredIs o q None = o ≡ None

-- ---- the query

pub record Accepted (q : Text) (n : ℕ) (cs : List Condition) : Type 0 where
  pub held : Held q n cs
  pub says : query q ≡ Some (conditions_of q n cs)

abbrev pub QueryIs : Text → Option Query → Type 0
QueryIs q (Some r) = Accepted q r.count r.conditions
QueryIs q None = query q ≡ None
