-- The columns of conditions among those of the table: one after the other, and by what the line of the table says.
use mathlib.Core.Path.{◌≡◌, refl, sym, ap, ◌∙◌}
use mathlib.Core.Bool.{Bool, true, false}
use Rattle.std.specs.Prelude.{Option, None, Some}
use mathlib.Core.List.{List, [], ◌∷◌, map}
use Prim.Native.Nat.{ℕ, ◌+◌, ◌≤◌, ◌<◌}
use native.Mathlib.Omega.{arith}
use lib.Dec.{eqb}
use lib.ListN.{length, drop, get_or}
use borrow.Author.Tests.{eqb-true, eqb-false}
use Rattle.facts.proofs.Lists.{map-drop}
use Rattle.rules.specs.Bytes.{Bytes, holds, all_among}
use Rattle.rules.specs.Json.Text.{Text}
use Rattle.rules.specs.Actions.{MetaData, Action, meta_data, action}
use Rattle.rules.specs.History.{no_table}
use Rattle.rules.specs.Query.{column_of}
use Rattle.rules.proofs.Holding.{all_among-cons, all_among-cons-not}
use Rattle.json_strings.specs.Decoded.{decoded}
use Rattle.query_conditions.specs.Reading.{no_condition, conditions_of, columns_of}
use Rattle.query_conditions.specs.declared.conditions.Condition.{Condition}
use Rattle.query_conditions.proofs.Columns.{conditions-here, conditions-end}
use Rattle.line_actions.specs.Asked.{meta_data_in}
use Rattle.log_replay.specs.Views.{line_at, table_at, or_no_table}
use Rattle.log_replay.specs.declared.Span.{Span}

-- ---- the columns from one on

module _ (q : Text) (n : ℕ) (cs : List Condition) (l : n ≤ length cs) where
  columns-from : (k : ℕ) → drop k (columns_of q n cs) ≡ map column_of (drop k (conditions_of q n cs))
  unfolding columns_of
  columns-from k = sym (map-drop column_of k (conditions_of q n cs))

  columns-here : (k : ℕ) → k < n → drop k (columns_of q n cs) ≡ decoded (drop (get_or cs k no_condition).column q) ∷ drop (k + 1) (columns_of q n cs)
  unfolding column_of
  columns-here k h =
      columns-from k ∙ ap (map column_of) (conditions-here q n cs l k h)
      ∙ ap (λ (xs : List Bytes). decoded (drop (get_or cs k no_condition).column q) ∷ xs) (sym (columns-from (k + 1)))

  columns-end : (k : ℕ) → n ≤ k → drop k (columns_of q n cs) ≡ []
  columns-end k h = columns-from k ∙ ap (map column_of) (conditions-end q n cs l k h)

  -- ---- where the table has no columns

  none-there : 0 < n → all_among [] (columns_of q n cs) ≡ false
  unfolding holds
  none-there h = ap (all_among []) (columns-here 0 h) ∙ all_among-cons-not [] _ _ refl

  pub none-among : eqb n 0 ≡ all_among [] (columns_of q n cs)
  unfolding all_among
  none-among = go (eqb n 0) refl
    where
      go : (b : Bool) → eqb n 0 ≡ b → b ≡ all_among [] (columns_of q n cs)
      go true e = let z : n ≡ 0 = eqb-true n 0 e in sym (ap (all_among []) (columns-end 0 (omega arith)))
      go false e = let z : n ≡ 0 → ⊥ = eqb-false n 0 e in sym (none-there (omega arith))

  -- ---- where it has these: k of the conditions are on one of them

  module _ (names : List Bytes) where
    abbrev pub Among : (k : ℕ) → Type 0
    Among k = all_among names (columns_of q n cs) ≡ all_among names (drop k (columns_of q n cs))

    module _ (k : ℕ) (g : Among k) where
      pub among-end : n ≤ k → all_among names (columns_of q n cs) ≡ true
      unfolding all_among
      among-end h = g ∙ ap (all_among names) (columns-end k h)

      module _ (h : k < n) where
        pub among-held : holds (decoded (drop (get_or cs k no_condition).column q)) names ≡ true → Among (k + 1)
        among-held e = g ∙ ap (all_among names) (columns-here k h) ∙ all_among-cons names _ _ e

        pub among-not : holds (decoded (drop (get_or cs k no_condition).column q)) names ≡ false → all_among names (columns_of q n cs) ≡ false
        among-not e = g ∙ ap (all_among names) (columns-here k h) ∙ all_among-cons-not names _ _ e

-- ---- the columns of the table whose line stands at `at`

module _ (src : Text) (at : Span) where
  pub table-columns : {m : MetaData} → action (line_at src at) ≡ Some (meta_data m) → (or_no_table (table_at src at)).partition_columns ≡ m.partition_columns
  unfolding table_at meta_data_in or_no_table
  table-columns e = ap (λ (o : Option Action). (or_no_table (meta_data_in o)).partition_columns) e

  pub no-columns : meta_data_in (action (line_at src at)) ≡ None → (or_no_table (table_at src at)).partition_columns ≡ []
  unfolding table_at or_no_table no_table
  no-columns e = ap (λ (x : Option MetaData). (or_no_table x).partition_columns) e
