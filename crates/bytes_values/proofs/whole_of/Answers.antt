-- `whole_of`: each answer by the length and the first digit.
use mathlib.Core.Path.{sym, ◌∙◌}
use native.Mathlib.Omega.{arith}
use Rattle.bytes_values.proofs.Wholes.{whole_long, whole-short, whole-zero, whole-first}
use Rattle.bytes_values.proofs.whole_of.Goals as goal
use Rattle.bytes_values.proofs.whole_of.Goals.{else-v-gt1-via-then-v-gt1+else-v-eq48, else-v-gt1-via-else-v-gt1}

pub returns-then-v-gt-SAFE_DIGITS : goal.returns-then-v-gt-SAFE_DIGITS
returns-then-v-gt-SAFE_DIGITS c = sym (whole_long c.args.v.now c.if-v-gt-SAFE_DIGITS.true)

pub returns-then-v-eq48 : goal.returns-then-v-eq48
returns-then-v-eq48 c = sym (whole-zero c.args.v.now c.if-v-gt1.true c.if-v-eq48.true)

pub returns : goal.returns
returns c =
    c.whole_digits.ensures
    ∙ elim c.else-v-gt1.branch [
      | else-v-gt1-via-then-v-gt1+else-v-eq48 w ↦ sym (whole-first c.args.v.now w.if-v-eq48.false)
      | else-v-gt1-via-else-v-gt1 w ↦ sym (whole-short c.args.v.now (omega arith))
    ]
