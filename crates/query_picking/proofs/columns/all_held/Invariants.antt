-- `all_held` meets its contract: what is asked of all columns is asked of those from k on.
use mathlib.Core.List.{List}
use Prim.Native.Nat.{◌≤◌}
use lib.ListN.{length}
use Rattle.rules.specs.Bytes.{Bytes}
use Rattle.field_containers.specs.Strung.{Listed}
use Rattle.query_picking.proofs.Among.{Among}
use Rattle.query_picking.proofs.columns.all_held.Given as goal

abbrev pub invariant-loop-k : goal.invariant-loop-k
invariant-loop-k l =
    (l.k ≤ l.n)
    × ((few : l.n ≤ length l.conditions) (names : List Bytes) → Listed l.line l.at names → Among l.q l.n l.conditions few names l.k)
