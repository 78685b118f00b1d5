-- `short_escape` meets its contract. The eight short escapes, byte by byte.
use native.Mathlib.Omega.{arith}
use Rattle.rules.specs.Bytes.{first}
use Rattle.rules.specs.Json.Strings.{short_escape}
use Rattle.json_characters.proofs.escapes.short_escape.Goals as goal

pub returns-in-34 : goal.returns-in-34
unfolding short_escape first
returns-in-34 c = (grind arith, grind arith)

pub returns-in-98 : goal.returns-in-98
unfolding short_escape first
returns-in-98 c = (grind arith, grind arith)

pub returns-in-102 : goal.returns-in-102
unfolding short_escape first
returns-in-102 c = (grind arith, grind arith)

pub returns-in-110 : goal.returns-in-110
unfolding short_escape first
returns-in-110 c = (grind arith, grind arith)

pub returns-in-114 : goal.returns-in-114
unfolding short_escape first
returns-in-114 c = (grind arith, grind arith)

pub returns-in-116 : goal.returns-in-116
unfolding short_escape first
returns-in-116 c = (grind arith, grind arith)

pub returns-in_default : goal.returns-in_default
unfolding short_escape first
returns-in_default c = grind arith
