-- `features_from` meets its contract. The loop keeps that all strings are held where those that are left are; what is left gets shorter.
use mathlib.Core.List.{List}
use Prim.Native.Nat.{◌-◌, ◌≤◌}
use lib.ListN.{length}
use Rattle.rules.specs.Bytes.{Bytes, all_among}
use Rattle.field_containers.specs.Strung.{Onward}
use Rattle.rules.proofs.Asking.{Asked}
use Rattle.field_containers.specs.Featured.{FeaturesAt}
use Rattle.log_agreement.proofs.features.features_from.Given as goal

abbrev pub invariant-loop-n : goal.invariant-loop-n
invariant-loop-n l = (l.i ≤ length l.s) × ((ys : List Bytes) → FeaturesAt l.t l.from ys → Asked (Onward l.s l.at) (Onward l.s) (all_among ys) l.i)

abbrev pub decreases-loop-n : goal.decreases-loop-n
decreases-loop-n l = length l.s - l.i
