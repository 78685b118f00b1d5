-- A search of a live table by halves: what the comparison with the row in the middle tells.
use Prim.Native.Nat.{ℕ, ◌+◌, ◌≤◌, ◌<◌}
use mathlib.Core.Path.{◌≡◌, sym, ap, ◌∙◌, subst}
use native.Mathlib.Omega.{arith}
use mathlib.Core.List.{List, []}
use Rattle.facts.proofs.Lists.{All-at}
use Rattle.facts.proofs.Rows.{length-rows_of}
use Rattle.rules.specs.Bytes.{Bytes, Order as RuleOrder, less, equal, more, order}
use Rattle.rules.specs.Json.Text.{Text}
use Rattle.rules.specs.Keyed.{Bracket}
use Rattle.rules.proofs.Searching.{bracket-start, bracket-up, bracket-down, bracket-hit}
use Rattle.json_strings.specs.Decoded.{WellSpelled}
use Rattle.bytes_values.specs.Answers.{order_is, order_of}
use Rattle.bytes_values.proofs.Back.{order-back}
use Rattle.std.specs.Prelude.{Ok, Err}
use Rattle.row_table.specs.Table.{wide, row, rows, row_at}
use Rattle.row_table.specs.declared.Cells.{Cells}
use Rattle.row_live.specs.Live.{path_at, key, Table, Finds}
use Rattle.std.specs.declared.cmp.Ordering.TheVariants.{Less, Equal, Greater}

-- what is left to look at: from row lo up to row hi
pub record Halving (src : Text) (k : Bytes) (n : ℕ) (t : List ℕ) (lo hi : ℕ) : Type 0 where
  pub within : hi ≤ n
  pub bracket : Bracket (key src) k (rows n t) (row []) lo hi

module _ {src : Text} {k : Bytes} {n : ℕ} {t : List ℕ} where
  pub halving-start : Halving src k n t 0 n
  halving-start = record {
    within = omega arith;
    bracket = subst (Bracket (key src) k (rows n t) (row []) 0) (length-rows_of wide row n t) (bracket-start (key src) k (rows n t) (row []));
  }

  pub halving-end : {lo hi : ℕ} → Halving src k n t lo hi → hi ≤ lo → Finds src k n t (Err lo)
  halving-end {lo} {hi} g h =
      let l : lo ≤ hi = g.bracket.lo-le in
      let e : hi ≡ lo = omega arith in
      subst (Bracket (key src) k (rows n t) (row []) lo) e g.bracket

-- the row c in the middle, m
module _ {src : Text} {n : ℕ} {t : List ℕ} (h : Table src n t) {c : Cells} (m : ℕ) (e : c ≡ row_at (rows n t) m) where
  pub halving-spelled : m < n → WellSpelled src (path_at c)
  halving-spelled l = rw e (All-at (λ (x : Cells). WellSpelled src (path_at x)) (rows n t) m (row []) (rw length-rows_of l) h.spelled)

  module _ {k : Bytes} {lo hi : ℕ} (g : Halving src k n t lo hi) (lm : lo ≤ m) (mh : m < hi) where
    -- how it stands to the key, from the answer of the comparison
    told : (o : RuleOrder) → order_is o ≡ order_is (order (key src c) k) → order (key src (row_at (rows n t) m)) k ≡ o
    told o a = ap (λ (x : Cells). order (key src x) k) (sym e) ∙ sym (order-back (order (key src c) k)) ∙ ap order_of (sym a) ∙ order-back o

    pub halving-up : Less ≡ order_is (order (key src c) k) → Halving src k n t (m + 1) hi
    unfolding order_is
    halving-up a = record {
      within = g.within;
      bracket = bracket-up (key src) k (rows n t) (row []) h.ascends lo hi g.bracket m lm mh (told less a);
    }

    pub halving-down : Greater ≡ order_is (order (key src c) k) → Halving src k n t lo m
    unfolding order_is
    halving-down a = record {
      within = omega (arith, g.within);
      bracket = bracket-down (key src) k (rows n t) (row []) h.ascends lo hi g.bracket m lm mh (told more a);
    }

    pub halving-hit : Equal ≡ order_is (order (key src c) k) → Finds src k n t (Ok m)
    unfolding order_is
    halving-hit a = (
      omega (arith, g.within),
      (bracket-hit (key src) k (rows n t) (row []) h.ascends lo hi g.bracket m lm mh (told equal a)).1,
    )
