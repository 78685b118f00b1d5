-- `note_all` meets its contract. The loop keeps the manifests that went by, the numbers of those kept, and what is left; what is left gets shorter.
use mathlib.Core.Path.{◌≡◌}
use mathlib.Core.List.{List}
use Prim.Native.Nat.{◌-◌, ◌≤◌}
use lib.ListN.{length}
use Rattle.rules.specs.Manifests.{Manifest, manifest_of}
use Rattle.rules.specs.Json.Text.{spelled}
use Rattle.rules.specs.Json.Values.{value as rule_value}
use Rattle.query_conditions.specs.Reading.{conditions_of}
use Rattle.manifests.specs.Walks.{Noted}
use Rattle.manifest_state.proofs.Gathering.{Gathered}
use Rattle.manifests.proofs.notes.note_all.Given as goal

abbrev pub invariant-loop-e : goal.invariant-loop-e
invariant-loop-e l =
    (ms : List Manifest) × Gathered (spelled (rule_value 30)) 0x5D manifest_of l.u l.at l.i ms × (length ms ≡ l.k)
    × Noted (conditions_of l.q l.asked.count l.asked.conditions) ms l.n l.initial.kept l.kept × (l.k ≤ l.i)

abbrev pub decreases-loop-e : goal.decreases-loop-e
decreases-loop-e l = length l.u - l.i
