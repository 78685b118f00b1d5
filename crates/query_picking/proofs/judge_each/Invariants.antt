-- `judge_each` meets its contract: what all conditions say is what those from k on say, and whether those before are met.
use Prim.Native.Nat.{◌≤◌}
use Rattle.rules.specs.Actions.{Facts}
use Rattle.field_containers.specs.Nested.{Pairing}
use Rattle.query_picking.proofs.Each.{Going}
use Rattle.query_picking.proofs.judge_each.Given as goal

abbrev pub invariant-loop-k : goal.invariant-loop-k
invariant-loop-k l =
    (l.k ≤ l.count) × ((f : Facts) → Pairing l.line l.at f.partition_values → Going l.q l.count l.conditions f l.k l.met)
