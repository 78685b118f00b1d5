-- `columns_in` meets its contract. The loop keeps the columns that went by and what is left; what is left gets shorter.
use Prim.Native.Nat.{◌-◌}
use lib.ListN.{length}
use Rattle.rules.specs.Json.Values.{member, value as rule_value}
use Rattle.manifest_state.specs.Tables.{Table}
use Rattle.manifest_state.proofs.Gathering.{Gathered}
use Rattle.manifest_state.proofs.Tabling.{column_of}
use Rattle.manifest_state.proofs.columns.columns_in.Given as goal

abbrev pub invariant-loop-v : goal.invariant-loop-v
invariant-loop-v l = (columns : Table) × Gathered (member (rule_value 28)) 0x7D column_of l.t l.at l.i columns

abbrev pub decreases-loop-v : goal.decreases-loop-v
decreases-loop-v l = length l.t - l.i
