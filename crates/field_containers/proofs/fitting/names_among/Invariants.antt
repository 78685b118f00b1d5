-- `names_among` meets its contract. The loop keeps that all names are among the strings where those that are left are; what is left gets shorter.
use mathlib.Core.List.{List}
use Prim.Native.Nat.{◌-◌, ◌≤◌}
use lib.ListN.{length}
use Rattle.rules.specs.Bytes.{Bytes, all_among}
use Rattle.rules.proofs.Asking.{Asked}
use Rattle.field_objects.specs.Namings.{Object, Members}
use Rattle.field_containers.specs.Strung.{Listed}
use Rattle.field_containers.proofs.fitting.names_among.Given as goal

abbrev pub invariant-loop-n : goal.invariant-loop-n
invariant-loop-n l =
    (l.i ≤ length l.s) × ((ys : List Bytes) → Listed l.t l.columns ys → Asked (Object 29 l.s l.values) (Members 29 l.s) (all_among ys) l.i)

abbrev pub decreases-loop-n : goal.decreases-loop-n
decreases-loop-n l = length l.s - l.i
