-- A count of skips: what the rules say of its field, by the slot of a scan.
use mathlib.Core.Path.{◌≡◌, refl, ap}
use mathlib.Core.List.{List, [], ◌∷◌}
use Prim.Native.Nat.{ℕ, zero, suc}
use native.Mathlib.Omega.{arith}
use Rattle.rules.specs.Actions.{skip_count_in}
use Rattle.rules.specs.Bytes.{ascii}
use Rattle.rules.specs.Json.Text.{Text}
use Rattle.rules.specs.Json.Values.{Member}
use Rattle.rules.specs.Json.Fields.{under}
use Rattle.field_objects.specs.Slots.{Times, Holds}
use Rattle.field_objects.specs.declared.notes.Slot.{Slot}
use Rattle.field_scalars.specs.Counts.{count_by, count_in}

-- what the rules say of the field, by its slot
pub field-count : (s : Text) (x : Slot) (ms : List Member) → Holds s x (under (ascii "skipCount") ms)
    → skip_count_in (under (ascii "skipCount") ms) ≡ count_in s x
unfolding skip_count_in
field-count s x ms h = go x.seen (under (ascii "skipCount") ms) h
  where
    go : (n : ℕ) (vs : List Text) → Times s n x.start x.end vs → skip_count_in vs ≡ count_by s n x.start x.end
    go zero vs h = ap skip_count_in h
    go (suc zero) vs h = ap skip_count_in h.0
    go (suc (suc n)) [] h = absurd (omega arith)
    go (suc (suc n)) (v ∷ []) h = absurd (omega arith)
    go (suc (suc n)) (v ∷ w ∷ vs) h = refl
