-- The rows of two tables, one after the other: what is asked of all is asked of those that are left.
use mathlib.Core.Path.{◌≡◌, refl, sym, ap, ap₂, ◌∙◌}
use mathlib.Core.Bool.{Bool, true, false, ◌&&◌}
use mathlib.Core.List.{List, [], ◌∷◌, map}
use Prim.Native.Nat.{ℕ, ◌+◌, ◌≤◌, ◌<◌}
use native.Mathlib.Omega.{arith}
use Rattle.std.proofs.lemmas.Bool.{eqb-true, eqb-false}
use lib.Dec.{eqb}
use lib.ListN.{length, drop, length-map, drop_of_length-le}
use Rattle.facts.proofs.Lists.{drop-is, get_d_map, All-at}
use Rattle.facts.proofs.Rows.{length-rows_of}
use Rattle.rules.specs.Json.Text.{Text}
use Rattle.rules.specs.Live.{Row}
use Rattle.rules.specs.History.{or_unstated}
use Rattle.rules.specs.Agreement.{agree_facts, agree_skip, agree_row, agree_rows, agree_protocols, agree_tables, agree}
use Rattle.rules.proofs.Sameness.{length-same-rows}
use Rattle.rules.proofs.Tests.{false_of}
use Rattle.rules.proofs.Agreement.{agree_rows-true}
use Rattle.row_table.specs.Table.{wide, row, rows, row_at, behind}
use Rattle.row_table.specs.declared.Cells.{Cells}
use Rattle.log_replay.specs.Views.{table_at, or_no_table, protocol_at, facts_at, skip_of, row_of, state_of, Stands}
use Rattle.log_replay.specs.declared.State.{State}
use Rattle.log_agreement.specs.Held.{HeldRows}

-- ---- the rule

agree_rows-here : (r s : Row) (rs ss : List Row) → agree_row r s ≡ true → agree_rows (r ∷ rs) (s ∷ ss) ≡ agree_rows rs ss
unfolding agree_rows
agree_rows-here r s rs ss e = rw (agree_rows, e)

agree_rows-fails : (r s : Row) (rs ss : List Row) → agree_row r s ≡ false → agree_rows (r ∷ rs) (s ∷ ss) ≡ false
unfolding agree_rows
agree_rows-fails r s rs ss e = rw (agree_rows, e)

-- ---- the rows of a table

abbrev pub viewed : Text → ℕ → List ℕ → List Row
viewed src n t = map (row_of src) (rows n t)

length-viewed : (src : Text) (n : ℕ) (t : List ℕ) → length (viewed src n t) ≡ n
length-viewed src n t = length-map (rows n t) (row_of src) ∙ length-rows_of wide row n t

viewed-here : (src : Text) (n : ℕ) (t : List ℕ) (k : ℕ) → k < n → drop k (viewed src n t) ≡ row_of src (row_at (rows n t) k) ∷ drop (k + 1) (viewed src n t)
viewed-here src n t k h =
    drop-is (viewed src n t) k (row_of src (row [])) (row_of src (row_at (rows n t) k)) (omega (arith, h, length-viewed src n t))
    (get_d_map (row_of src) (rows n t) k (row []) (row_of src (row [])) (omega (arith, h, length-rows_of wide row n t)))

pub row-stands : (src : Text) (n : ℕ) (t : List ℕ) (k : ℕ) → k < n → HeldRows src n t → Stands src (row_at (rows n t) k)
row-stands src n t k h w = All-at (Stands src) (rows n t) k (row []) (omega (arith, h, length-rows_of wide row n t)) w.stands

-- ---- two rows

and-turned : (a b c : Bool) → (a && (b && c)) ≡ ((b && c) && a)
and-turned true true true = refl
and-turned true true false = refl
and-turned true false c = refl
and-turned false true true = refl
and-turned false true false = refl
and-turned false false c = refl

-- in the order of the code
pub row-by : (src : Text) (c d : Cells) → agree_row (row_of src c) (row_of src d)
    ≡ ((eqb c.skips d.skips && eqb c.retry d.retry) && agree_facts (facts_at src c) (facts_at src d))
unfolding agree_row agree_skip row_of skip_of
row-by src c d = and-turned (agree_facts (facts_at src c) (facts_at src d)) (eqb c.skips d.skips) (eqb c.retry d.retry)

pub counts-differ : (src : Text) (n m : ℕ) (t u : List ℕ) → (n ≡ m → ⊥) → agree_rows (viewed src n t) (viewed src m u) ≡ false
counts-differ src n m t u h =
    false_of
    (agree_rows (viewed src n t) (viewed src m u))
    (λ e. h (sym (length-viewed src n t) ∙ length-same-rows (agree_rows-true (viewed src n t) (viewed src m u) e) ∙ length-viewed src m u))

-- ---- two tables

module _ (src : Text) (n : ℕ) (t u : List ℕ) where
  -- k rows agree
  abbrev pub Going : ℕ → Type 0
  Going k = agree_rows (viewed src n t) (viewed src n u) ≡ agree_rows (drop k (viewed src n t)) (drop k (viewed src n u))

  module _ (k : ℕ) (g : Going k) where
    pub going_end : n ≤ k → agree_rows (viewed src n t) (viewed src n u) ≡ true
    unfolding agree_rows
    going_end h =
        g
        ∙ ap₂ agree_rows (drop_of_length-le (viewed src n t) {i = k} (omega (arith, h, length-viewed src n t)))
        (drop_of_length-le (viewed src n u) {i = k} (omega (arith, h, length-viewed src n u)))

    module _ (h : k < n) where
      going-here : agree_rows (viewed src n t) (viewed src n u)
          ≡ agree_rows (row_of src (row_at (rows n t) k) ∷ drop (k + 1) (viewed src n t)) (row_of src (row_at (rows n u) k) ∷ drop (k + 1) (viewed src n u))
      going-here = g ∙ ap₂ agree_rows (viewed-here src n t k h) (viewed-here src n u k h)

      pub going-same : agree_row (row_of src (row_at (rows n t) k)) (row_of src (row_at (rows n u) k)) ≡ true → Going (k + 1)
      unfolding row_of
      going-same e = going-here ∙ agree_rows-here (row_of src (row_at (rows n t) k)) (row_of src (row_at (rows n u) k)) _ _ e

      pub going-differs : agree_row (row_of src (row_at (rows n t) k)) (row_of src (row_at (rows n u) k)) ≡ false
          → agree_rows (viewed src n t) (viewed src n u) ≡ false
      unfolding row_of
      going-differs e = going-here ∙ agree_rows-fails (row_of src (row_at (rows n t) k)) (row_of src (row_at (rows n u) k)) _ _ e

-- ---- two states

-- where l fails, f does; where it holds, f is g
and-led : (l t p f g : Bool) → (l ≡ true → f ≡ g) → (l ≡ false → f ≡ false) → (t && (p && f)) ≡ (((l && t) && p) && g)
and-led true true true f g h k = h refl
and-led true true false f g h k = refl
and-led true false p f g h k = refl
and-led false true true f g h k = k refl
and-led false true false f g h k = refl
and-led false false p f g h k = refl

-- in the order of the code
pub states-by : (src : Text) (a b : State) (ta tb : List ℕ) → agree (state_of src a ta) (state_of src b tb)
    ≡ (((eqb a.live b.live && agree_tables (or_no_table (table_at src a.table)) (or_no_table (table_at src b.table)))
    && agree_protocols (or_unstated (protocol_at src a.protocol)) (or_unstated (protocol_at src b.protocol)))
    && agree_rows (viewed src a.live (behind a.base ta)) (viewed src a.live (behind b.base tb)))
unfolding agree state_of
states-by src a b ta tb =
    and-led (eqb a.live b.live) _ _ (agree_rows (viewed src a.live (behind a.base ta)) (viewed src b.live (behind b.base tb))) _
    (λ e. ap (λ (n : ℕ). agree_rows (viewed src a.live (behind a.base ta)) (viewed src n (behind b.base tb))) (sym (eqb-true a.live b.live e)))
    (λ e. counts-differ src a.live b.live (behind a.base ta) (behind b.base tb) (eqb-false a.live b.live e))
