-- `utf8_byte` meets its contract. Each byte of each width.
use native.Mathlib.Omega.{arith}
use Rattle.json_strings.proofs.Widths.{size-one, size-bounds, last_as, last_one, last-tail, last-two, last-second, last-three, last-third, last-four}
use Rattle.json_strings.proofs.cursors.utf8_byte.Goals as goal

pub returns-then-code-lt-TWO_BYTES : goal.returns-then-code-lt-TWO_BYTES
returns-then-code-lt-TWO_BYTES c =
    last_as c.args.code (omega (arith, size-one c.args.code c.if-code-lt-TWO_BYTES.true)) (last_one c.args.code c.if-code-lt-TWO_BYTES.true)

pub returns-then-left-eq1 : goal.returns-then-left-eq1
returns-then-left-eq1 c =
    last_as c.args.code c.if-left-eq1.true (last-tail c.args.code c.if-code-lt-TWO_BYTES.false)

pub returns-then-code-lt-THREE_BYTES : goal.returns-then-code-lt-THREE_BYTES
returns-then-code-lt-THREE_BYTES c =
    last_as c.args.code c.if-left-eq2.true (last-two c.args.code c.if-code-lt-TWO_BYTES.false c.if-code-lt-THREE_BYTES.true)

pub returns-then-left-eq2 : goal.returns-then-left-eq2
returns-then-left-eq2 c =
    last_as c.args.code c.if-left-eq2.true (last-second c.args.code c.if-code-lt-THREE_BYTES.false)

pub returns-then-code-lt-FOUR_BYTES : goal.returns-then-code-lt-FOUR_BYTES
returns-then-code-lt-FOUR_BYTES c =
    last_as c.args.code c.if-left-eq3.true (last-three c.args.code ((size-bounds c.args.code).three (omega arith)) c.if-code-lt-FOUR_BYTES.true)

pub returns-then-left-eq3 : goal.returns-then-left-eq3
returns-then-left-eq3 c =
    last_as c.args.code c.if-left-eq3.true (last-third c.args.code c.if-code-lt-FOUR_BYTES.false)

pub returns : goal.returns
returns c =
    last_as c.args.code (omega (arith, (size-bounds c.args.code).most)) (last-four c.args.code ((size-bounds c.args.code).four (omega arith)))
