-- `is_ws` meets its contract. White space, byte by byte.
use native.Mathlib.Omega.{arith}
use Rattle.rules.specs.Bytes.{first}
use Rattle.rules.specs.Json.Text.{is_ws}
use Rattle.json_tokens.proofs.tokens.is_ws.Goals as goal

pub returns-then-b-eq10 : goal.returns-then-b-eq10
unfolding is_ws first
returns-then-b-eq10 c = grind arith

pub returns-else-b-eq10 : goal.returns-else-b-eq10
unfolding is_ws first
returns-else-b-eq10 c = grind arith
