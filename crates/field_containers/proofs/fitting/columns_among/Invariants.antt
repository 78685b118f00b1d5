-- `columns_among` meets its contract. The loop keeps that all strings are among the names where those that are left are; what is left gets shorter.
use mathlib.Core.List.{List}
use Prim.Native.Nat.{◌-◌, ◌≤◌}
use lib.ListN.{length}
use Rattle.rules.specs.Bytes.{Bytes, all_among}
use Rattle.rules.proofs.Asking.{Asked}
use Rattle.field_objects.specs.Namings.{Object}
use Rattle.field_containers.specs.Strung.{Listed, Onward}
use Rattle.field_containers.proofs.fitting.columns_among.Given as goal

abbrev pub invariant-loop-n : goal.invariant-loop-n
invariant-loop-n l =
    (l.i ≤ length l.t) × ((xs : List Bytes) → Object 29 l.s l.values xs → Asked (Listed l.t l.columns) (Onward l.t) (all_among xs) l.i)

abbrev pub decreases-loop-n : goal.decreases-loop-n
decreases-loop-n l = length l.t - l.i
