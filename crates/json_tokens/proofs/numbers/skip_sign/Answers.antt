-- `skip_sign` meets its contract. By the byte there, if any.
use borrow.Author.Tests.{ne_eqb}
use native.Mathlib.Omega.{arith}
use Rattle.rules.specs.Bytes.{first}
use Rattle.rules.specs.Json.Numbers.{sign}
use Rattle.json_tokens.proofs.Places.{here, here-is, ended}
use Rattle.json_tokens.proofs.numbers.skip_sign.Goals as goal

pub returns-then-s-at : goal.returns-then-s-at
unfolding sign
returns-then-s-at c = record { left = rw (ended _ _ c.if-s-at.true); from = omega arith; within = c.requires }

pub returns-then-b-eq-MINUS : goal.returns-then-b-eq-MINUS
unfolding sign first
returns-then-b-eq-MINUS c = record { left = rw (here-is _ _ 0x2D c.if-s-at.false c.if-b-eq-MINUS.true); from = omega arith; within = omega arith }

pub returns-then-b-eq-PLUS : goal.returns-then-b-eq-PLUS
unfolding sign first
returns-then-b-eq-PLUS c = record { left = rw (here-is _ _ 0x2B c.if-s-at.false c.if-b-eq-PLUS.true); from = omega arith; within = omega arith }

pub returns-else-b-eq-PLUS : goal.returns-else-b-eq-PLUS
unfolding sign first
returns-else-b-eq-PLUS c =
    record {
      left = rw (here _ _ c.if-s-at.false, sign, first, ne_eqb _ _ c.if-b-eq-MINUS.false, ne_eqb _ _ c.if-b-eq-PLUS.false);
      from = omega arith;
      within = c.requires;
    }
