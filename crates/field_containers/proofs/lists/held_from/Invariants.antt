-- `held_from` meets its contract. The loop keeps that the string is held by what is left, if it is at all; what is left gets shorter.
use Prim.Native.Nat.{◌-◌, ◌≤◌}
use lib.ListN.{length, drop}
use Rattle.rules.specs.Bytes.{holds}
use Rattle.json_strings.specs.Decoded.{decoded}
use Rattle.field_containers.specs.Strung.{Onward}
use Rattle.rules.proofs.Asking.{Asked}
use Rattle.field_containers.proofs.lists.held_from.Given as goal

abbrev pub invariant-loop-n : goal.invariant-loop-n
invariant-loop-n l = (l.i ≤ length l.s) × Asked (Onward l.s l.at) (Onward l.s) (holds (decoded (drop l.j l.t))) l.i

abbrev pub decreases-loop-n : goal.decreases-loop-n
decreases-loop-n l = length l.s - l.i
