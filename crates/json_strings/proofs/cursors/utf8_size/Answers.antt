-- `utf8_size` meets its contract. The widths of UTF-8, by comparisons.
use mathlib.Core.Path.{sym}
use Rattle.json_strings.proofs.Widths.{size-one, size-two, size-three, size-four}
use Rattle.json_strings.proofs.cursors.utf8_size.Goals as goal

pub returns-then-code-lt-TWO_BYTES : goal.returns-then-code-lt-TWO_BYTES
returns-then-code-lt-TWO_BYTES c = sym (size-one c.args.code c.if-code-lt-TWO_BYTES.true)

pub returns-then-code-lt-THREE_BYTES : goal.returns-then-code-lt-THREE_BYTES
returns-then-code-lt-THREE_BYTES c = sym (size-two c.args.code c.if-code-lt-TWO_BYTES.false c.if-code-lt-THREE_BYTES.true)

pub returns-then-code-lt-FOUR_BYTES : goal.returns-then-code-lt-FOUR_BYTES
returns-then-code-lt-FOUR_BYTES c = sym (size-three c.args.code c.if-code-lt-THREE_BYTES.false c.if-code-lt-FOUR_BYTES.true)

pub returns-else-code-lt-FOUR_BYTES : goal.returns-else-code-lt-FOUR_BYTES
returns-else-code-lt-FOUR_BYTES c = sym (size-four c.args.code c.if-code-lt-FOUR_BYTES.false)
