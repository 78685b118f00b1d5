-- A row put into a table in a room of `limit` rows: below the limit there is room for one more, at it only for one over another.
use mathlib.Core.Path.{refl}
use mathlib.Core.List.{List, []}
use Prim.Native.Nat.{ℕ, ◌+◌, ◌≤◌}
use native.Mathlib.Omega.{arith}
use Rattle.facts.proofs.Rows.{length-rows_of}
use Rattle.rules.specs.Json.Text.{Text}
use Rattle.rules.proofs.Live.{put-length-new}
use Rattle.rules.proofs.Searching.{bracket-held}
use Rattle.row_table.specs.Table.{wide, row, rows, behind}
use Rattle.row_table.specs.declared.Cells.{Cells}
use Rattle.std.specs.Prelude.{Err, None}
use Rattle.row_live.specs.Live.{key, Finds}
use Rattle.log_replay.specs.Answers.{PutIs}

pub put_full : (src : Text) (c : Cells) (base n limit : ℕ) (t : List ℕ) → base + n ≤ limit → limit ≤ n → (i : ℕ)
    → Finds src (key src c) n (behind base t) (Err i) → PutIs src c base n limit t t None
put_full src c base n limit t few most i f = (
  omega (
    arith,
    put-length-new (key src) c (rows n (behind base t)) (bracket-held (key src) (key src c) (rows n (behind base t)) (row []) i i f (omega arith)),
    length-rows_of wide row n (behind base t),
  ),
  refl,
)
