-- `skip_byte` meets its contract. The text is over, or its byte there is b or another.
use borrow.Author.Tests.{eq-eqb, ne_eqb}
use native.Mathlib.Omega.{arith}
use Rattle.rules.specs.Json.Text.{byte}
use Rattle.json_tokens.proofs.Places.{here, ended}
use Rattle.json_tokens.proofs.tokens.skip_byte.Goals as goal

pub returns-then-s-at : goal.returns-then-s-at
unfolding byte
returns-then-s-at c = rw (ended _ _ c.if-s-at.true)

pub returns-then-s-at-2 : goal.returns-then-s-at-2
unfolding byte
returns-then-s-at-2 c = (rw (here _ _ c.if-s-at.false, byte, eq-eqb _ _ c.if-s-at-2.true), omega arith, omega arith)

pub returns-else-s-at-2 : goal.returns-else-s-at-2
unfolding byte
returns-else-s-at-2 c = rw (here _ _ c.if-s-at.false, byte, ne_eqb _ _ c.if-s-at-2.false)
