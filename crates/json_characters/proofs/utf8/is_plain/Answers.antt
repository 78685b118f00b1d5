-- `is_plain` meets its contract: the same range, without the same two bytes.
use native.Mathlib.Omega.{arith}
use Rattle.rules.specs.Bytes.{first, among}
use Rattle.rules.specs.Json.Strings.{is_plain}
use Rattle.json_characters.proofs.utf8.is_plain.Goals as goal

pub returns-then-b-ne-QUOTE : goal.returns-then-b-ne-QUOTE
unfolding is_plain first among
returns-then-b-ne-QUOTE c = grind arith

pub returns-else-b-ne-QUOTE : goal.returns-else-b-ne-QUOTE
unfolding is_plain first among
returns-else-b-ne-QUOTE c = grind arith
