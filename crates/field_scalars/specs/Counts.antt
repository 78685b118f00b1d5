-- What a field states, as the code answers it: a count of skips.
use Rattle.std.specs.Prelude.{ℕ, zero, suc, ◌-◌, take, drop}
use Rattle.std.specs.Prelude.{Option, None, Some}
use Rattle.rules.specs.Actions.{skip_number}
use Rattle.rules.specs.Bytes.{◌>>=◌}
use Rattle.rules.specs.Json.Text.{Text}
use Rattle.rules.specs.Json.Numbers.{whole}
use Rattle.field_objects.specs.declared.notes.Slot.{Slot}

-- a count of skips, by how often its field was seen: 1 where it is missing
abbrev pub count_by : Text → (seen v e : ℕ) → Option ℕ
count_by s zero v e = Some 1
count_by s (suc zero) v e = whole (take (e - v) (drop v s)) >>= skip_number
count_by s (suc (suc n)) v e = None

abbrev pub count_in : Text → Slot → Option ℕ
count_in s x = count_by s x.seen x.start x.end
