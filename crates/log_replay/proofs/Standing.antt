-- A row that stands is the rules' row of its line, and its path is its key: so putting in, taking out and marking are the rules'.
use mathlib.Core.Path.{◌≡◌, refl, sym, ap, ◌∙◌}
use mathlib.Core.List.{List, map}
use Prim.Native.Nat.{ℕ}
use lib.ListN.{length, length-map}
use Rattle.facts.specs.Lists.{All}
use Rattle.facts.proofs.Lists.{All-weaken}
use Rattle.facts.proofs.Rows.{length-rows_of}
use Rattle.rules.specs.Bytes.{Bytes}
use Rattle.rules.specs.Json.Text.{Text}
use Rattle.rules.specs.Actions.{Facts}
use Rattle.rules.specs.Live.{put, take_out, change, skipped, path_of}
use Rattle.row_table.specs.Table.{wide, row, rows, behind}
use Rattle.row_table.specs.declared.Cells.{Cells}
use Rattle.row_live.specs.Live.{key, marked}
use Rattle.log_replay.specs.declared.State.{State}
use Rattle.log_replay.specs.Views.{facts_in, facts_at, skip_of, row_of, state_of, Stands}
use Rattle.rules.proofs.Changing.{All-change, change-map}
use Rattle.rules.proofs.Mapping.{Keeps, put_map, take_out-map}

module _ (src : Text) where
  pub stands-facts : (c : Cells) (s : Stands src c) → facts_at src c ≡ s.facts
  unfolding facts_at facts_in
  stands-facts c s = ap facts_in s.adds

  stands-path : (c : Cells) → Stands src c → Keeps (key src) path_of (row_of src) c
  unfolding path_of row_of
  stands-path c s = sym s.path ∙ ap (λ (f : Facts). f.path) (sym (stands-facts c s))

  stands-paths : (rs : List Cells) → All (Stands src) rs → All (Keeps (key src) path_of (row_of src)) rs
  stands-paths rs h = All-weaken (Stands src) (Keeps (key src) path_of (row_of src)) rs stands-path h

  pub rows-put : (c : Cells) (rs : List Cells) → Stands src c → All (Stands src) rs
      → map (row_of src) (put (key src) c rs) ≡ put path_of (row_of src c) (map (row_of src) rs)
  rows-put c rs s h = put_map (key src) path_of (row_of src) c rs (stands-path c s) (stands-paths rs h)

  pub rows-take_out : (k : Bytes) (rs : List Cells) → All (Stands src) rs
      → map (row_of src) (take_out (key src) k rs) ≡ take_out path_of k (map (row_of src) rs)
  rows-take_out k rs h = take_out-map (key src) path_of (row_of src) k rs (stands-paths rs h)

  -- two numbers more in a row: its line is as it was

  stands-marked : (skips retry : ℕ) (c : Cells) → Stands src c → Stands src (marked skips retry c)
  stands-marked skips retry c s =
      record { facts = s.facts; within = s.within; adds = s.adds; path = s.path; size = s.size; time = s.time }

  pub stands-change : (k : Bytes) (skips retry : ℕ) (rs : List Cells) → All (Stands src) rs → All (Stands src) (change (key src) k (marked skips retry) rs)
  stands-change k skips retry rs h = All-change (key src) k (marked skips retry) (Stands src) rs h (stands-marked skips retry)

  row-marked : (skips retry : ℕ) (c : Cells) → row_of src (marked skips retry c) ≡ skipped (record { count = skips; retry_after = retry }) (row_of src c)
  unfolding row_of skip_of facts_at skipped
  row-marked skips retry c = refl

  pub rows-change : (k : Bytes) (skips retry : ℕ) (rs : List Cells) → All (Stands src) rs
      → map (row_of src) (change (key src) k (marked skips retry) rs)
      ≡ change path_of k (skipped (record { count = skips; retry_after = retry })) (map (row_of src) rs)
  rows-change k skips retry rs h =
      change-map (key src) path_of (row_of src) k (marked skips retry) (skipped (record { count = skips; retry_after = retry })) (row-marked skips retry)
      rs (stands-paths rs h)

  pub length-live : (st : State) (t : List ℕ) → length (state_of src st t).live ≡ st.live
  unfolding state_of
  length-live st t = length-map (rows st.live (behind st.base t)) (row_of src) ∙ length-rows_of wide row st.live (behind st.base t)
