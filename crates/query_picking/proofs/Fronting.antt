-- The loop that moves the rows that pass a test to the front of a table, a row a turn; and what the rules say of picked files.
use mathlib.Core.Path.{◌≡◌, refl, sym, ap, ◌∙◌, subst}
use mathlib.Core.Bool.{Bool, true, false}
use mathlib.Core.List.{List, [], ◌∷◌, map}
use Prim.Native.Nat.{ℕ, ◌+◌, ◌≤◌, ◌<◌}
use native.Mathlib.Omega.{arith}
use lib.ListN.{length, drop, set, drop_of_length-le}
use Rattle.facts.specs.Lists.{All}
use Rattle.facts.specs.Kept.{kept, Compacting}
use Rattle.facts.proofs.Lists.{All-at, get_d-behind, drop_here}
use Rattle.facts.proofs.Rows.{length-rows_of, take-rows_of}
use Rattle.facts.proofs.Kept.{compacting-start, compacting-past, compacting-keep, compacting-end}
use Rattle.rules.specs.Bytes.{keep_if}
use Rattle.rules.specs.Json.Text.{Text}
use Rattle.rules.specs.Actions.{Facts}
use Rattle.rules.specs.Live.{Row}
use Rattle.rules.specs.Query.{Condition}
use Rattle.rules.specs.Picking.{meets_all, picked, any_out_of, in_range_all}
use Rattle.rules.proofs.InRange.{in_range_all-here, in_range_all-past, in_range_all-text}
use Rattle.row_table.specs.Table.{wide, row, rows, row_at, behind, Changed}
use Rattle.row_table.specs.declared.Cells.{Cells}
use Rattle.log_replay.specs.Views.{facts_at, row_of}
use Rattle.query_picking.specs.Picked.{Fronted, PickedBy}
use Rattle.std.specs.Prelude.{Ok}

-- the picked rows are the rows of the picked files
pub picked-map : (src : Text) (cs : List Condition) (xs : List Cells)
    → picked cs (map (row_of src) xs) ≡ map (row_of src) (kept (λ (c : Cells). meets_all cs (facts_at src c)) xs)
unfolding picked kept keep_if row_of
picked-map src cs [] = refl
picked-map src cs (c ∷ xs) = go (picked-map src cs xs) (meets_all cs (facts_at src c)) refl
  where
    go : picked cs (map (row_of src) xs) ≡ map (row_of src) (kept (λ (c : Cells). meets_all cs (facts_at src c)) xs)
        → (b : Bool) → meets_all cs (facts_at src c) ≡ b
        → picked cs (map (row_of src) (c ∷ xs)) ≡ map (row_of src) (kept (λ (c : Cells). meets_all cs (facts_at src c)) (c ∷ xs))
    go ih true e = rw (picked, kept, keep_if, e, ih)
    go ih false e = rw (picked, kept, keep_if, e, ih)

kept-all : {A : Type 0} (test : A → Bool) → ((x : A) → test x ≡ true) → (xs : List A) → kept test xs ≡ xs
unfolding kept
kept-all test h [] = refl
kept-all test h (x ∷ xs) = rw (kept, h x, kept-all test h xs)

meets_all-none : (cs : List Condition) (f : Facts) → cs ≡ [] → meets_all cs f ≡ true
unfolding meets_all
meets_all-none cs f e = rw (e, meets_all)

in_range_all-none : (cs : List Condition) (rs : List Row) → cs ≡ [] → in_range_all cs rs ≡ true
unfolding All
in_range_all-none cs rs e = ap (λ (ds : List Condition). in_range_all ds rs) e ∙ in_range_all-text [] rs tt

-- where nothing is asked every row is picked, as it stands
pub picks-all : (src : Text) (cs : List Condition) (n : ℕ) (t : List ℕ) → cs ≡ [] → PickedBy src cs n t t (Ok n)
picks-all src cs n t e = (
  in_range_all-none cs (map (row_of src) (rows n t)) e,
  record {
    few = omega arith;
    holds = sym (kept-all (λ (c : Cells). meets_all cs (facts_at src c)) (λ c. meets_all-none cs (facts_at src c) e) (rows n t));
    rest = refl;
    length = refl;
  },
)

-- ---- rows moved

-- of the n rows of t₀, k are passed, and the m of them that pass the test stand at the front of t
pub record Fronting (test : Cells → Bool) (n : ℕ) (t₀ t : List ℕ) (k m : ℕ) : Type 0 where
  pub within : k ≤ n
  pub moved : Compacting test (rows n t₀) (rows n t) k m
  pub rest : behind n t ≡ behind n t₀
  pub length : length t ≡ length t₀

module _ (test : Cells → Bool) {n : ℕ} where
  pub fronting-start : (t : List ℕ) → Fronting test n t t 0 0
  fronting-start t = record { within = omega arith; moved = compacting-start test (rows n t); rest = refl; length = refl }

  module _ {t₀ t : List ℕ} {k m : ℕ} (g : Fronting test n t₀ t k m) where
    pub fronting-end : n ≤ k → Fronted test n t₀ m t
    fronting-end h =
        let w : k ≤ n = g.within in
        let f : m ≤ k = g.moved.few in
        let e : k ≡ length (rows n t₀) = omega (arith, length-rows_of wide row n t₀) in
        record {
          few = omega arith;
          holds = sym (take-rows_of wide row m n t (omega arith)) ∙ compacting-end test g.moved e;
          rest = g.rest;
          length = g.length;
        }

    module _ (h : k < n) {c : Cells} (read : c ≡ row_at (rows n t) k) where
      here : k < length (rows n t₀)
      here = omega (arith, length-rows_of wide row n t₀)

      -- the row at k is still that of t₀
      pub fronting-read : c ≡ row_at (rows n t₀) k
      fronting-read = read ∙ get_d-behind k k (row []) (rows n t) (rows n t₀) (omega arith) g.moved.rest

      pub fronting-all : (P : Cells → Type 0) → All P (rows n t₀) → P c
      fronting-all P all = subst P (sym fronting-read) (All-at P (rows n t₀) k (row []) here all)

      pub fronting-past : test c ≡ false → Fronting test n t₀ t (k + 1) m
      fronting-past e = record {
        within = omega arith;
        moved = compacting-past test (row []) g.moved here (ap test (sym read) ∙ e);
        rest = g.rest;
        length = g.length;
      }

      -- it is written over row m
      pub fronting-keep : {t' : List ℕ} → test c ≡ true → Changed n (set (rows n t) m c) n t t' → Fronting test n t₀ t' (k + 1) (m + 1)
      fronting-keep {t'} e p = record {
        within = omega arith;
        moved =
            subst
            (λ (rs : List Cells). Compacting test (rows n t₀) rs (k + 1) (m + 1))
            (ap (set (rows n t) m) (sym read) ∙ sym p.rows)
            (compacting-keep test (row []) g.moved here (ap test (sym read) ∙ e));
        rest = p.rest ∙ g.rest;
        length = p.length ∙ g.length;
      }

-- ---- rows in range

-- of the n rows of t, the first k have no value out of range
abbrev pub Ranging : (src : Text) (cs : List Condition) (n : ℕ) (t : List ℕ) (k : ℕ) → Type 0
Ranging src cs n t k = in_range_all cs (map (row_of src) (rows n t)) ≡ in_range_all cs (map (row_of src) (drop k (rows n t)))

module _ (src : Text) (cs : List Condition) (n : ℕ) (t : List ℕ) (k : ℕ) (g : Ranging src cs n t k) where
  pub ranging-end : n ≤ k → in_range_all cs (map (row_of src) (rows n t)) ≡ true
  unfolding in_range_all
  ranging-end h =
      g ∙ ap (λ (xs : List Cells). in_range_all cs (map (row_of src) xs)) (drop_of_length-le (rows n t) {i = k} (omega (arith, length-rows_of wide row n t)))

  module _ (h : k < n) {c : Cells} (read : c ≡ row_at (rows n t) k) where
    ranging-here : in_range_all cs (map (row_of src) (rows n t)) ≡ in_range_all cs (row_of src c ∷ map (row_of src) (drop (k + 1) (rows n t)))
    ranging-here =
        g
        ∙ ap (λ (xs : List Cells). in_range_all cs (map (row_of src) xs))
        (drop_here (rows n t) k (row []) (omega (arith, length-rows_of wide row n t)) ∙ ap (λ (x : Cells). x ∷ drop (k + 1) (rows n t)) (sym read))

    pub ranging-past : any_out_of cs (facts_at src c) ≡ false → Ranging src cs n t (k + 1)
    unfolding row_of
    ranging-past e = ranging-here ∙ in_range_all-past cs (row_of src c) (map (row_of src) (drop (k + 1) (rows n t))) e

    pub ranging-out : any_out_of cs (facts_at src c) ≡ true → in_range_all cs (map (row_of src) (rows n t)) ≡ false
    unfolding row_of
    ranging-out e = ranging-here ∙ in_range_all-here cs (row_of src c) (map (row_of src) (drop (k + 1) (rows n t))) e
