-- `value_within`, `object`, `skip_member` and `array` call each other: with each call the depth that is left falls,
-- taken three times, with one more in an array or at a member, and two more in an object. The loops keep `Going`.
use Rattle.std.proofs.Common.{◌+◌, ◌-◌, ◌*◌, length}
use Rattle.rules.specs.Json.Text.{spelled}
use Rattle.rules.specs.Json.Values.{member, value as rule_value}
use Rattle.json_values.proofs.Turns.{Going}
use Rattle.json_values.proofs.+array_object_skip_member_value_within.Given as goal

abbrev pub decreases-array : goal.decreases-array
decreases-array l = 3 * l.depth + 1

abbrev pub decreases-object : goal.decreases-object
decreases-object l = 3 * l.depth + 2

abbrev pub decreases-skip_member : goal.decreases-skip_member
decreases-skip_member l = 3 * l.depth + 1

abbrev pub decreases-value_within : goal.decreases-value_within
decreases-value_within l = 3 * l.depth

abbrev pub invariant-array-loop-at : goal.invariant-array-loop-at
invariant-array-loop-at l = Going (spelled (rule_value l.depth)) 0x5D l.s l.at l.i

abbrev pub decreases-array-loop-at : goal.decreases-array-loop-at
decreases-array-loop-at l = length l.s - l.i

abbrev pub invariant-object-loop-at : goal.invariant-object-loop-at
invariant-object-loop-at l = Going (member (rule_value l.depth)) 0x7D l.s l.at l.i

abbrev pub decreases-object-loop-at : goal.decreases-object-loop-at
decreases-object-loop-at l = length l.s - l.i
