-- `hex_digit` meets its contract: the three ranges of digits.
use native.Mathlib.Omega.{arith}
use Rattle.rules.specs.Bytes.{first, among}
use Rattle.rules.specs.Json.Strings.{hex_digit}
use Rattle.json_characters.proofs.escapes.hex_digit.Goals as goal

pub returns-in-48-to-57 : goal.returns-in-48-to-57
unfolding hex_digit first among
returns-in-48-to-57 c = (grind arith, omega arith)

pub returns-in-65-to-70 : goal.returns-in-65-to-70
unfolding hex_digit first among
returns-in-65-to-70 c = (grind arith, omega arith)

pub returns-in-97-to-102 : goal.returns-in-97-to-102
unfolding hex_digit first among
returns-in-97-to-102 c = (grind arith, omega arith)

pub returns-in_default : goal.returns-in_default
unfolding hex_digit first among
returns-in_default c = grind arith

pub returns-in_default-2 : goal.returns-in_default-2
unfolding hex_digit first among
returns-in_default-2 c = grind arith

pub returns-in_default-3 : goal.returns-in_default-3
unfolding hex_digit first among
returns-in_default-3 c = grind arith

pub returns-in_default-4 : goal.returns-in_default-4
unfolding hex_digit first among
returns-in_default-4 c = grind arith
