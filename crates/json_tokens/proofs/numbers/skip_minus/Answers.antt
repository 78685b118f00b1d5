-- `skip_minus` meets its contract. By the byte there, if any.
use borrow.Author.Tests.{ne_eqb}
use native.Mathlib.Omega.{arith}
use Rattle.rules.specs.Json.Numbers.{minus}
use Rattle.json_tokens.proofs.Places.{here, here-is, ended}
use Rattle.json_tokens.proofs.numbers.skip_minus.Goals as goal

pub returns-then-s-at : goal.returns-then-s-at
unfolding minus
returns-then-s-at c = record { left = rw (ended _ _ c.if-s-at.true); from = omega arith; within = c.requires }

pub returns-then-s-at-eq-MINUS : goal.returns-then-s-at-eq-MINUS
unfolding minus
returns-then-s-at-eq-MINUS c = record { left = rw (here-is _ _ 0x2D c.if-s-at.false c.if-s-at-eq-MINUS.true); from = omega arith; within = omega arith }

pub returns-else-s-at-eq-MINUS : goal.returns-else-s-at-eq-MINUS
unfolding minus
returns-else-s-at-eq-MINUS c =
    record {
      left = rw (here _ _ c.if-s-at.false, minus, ne_eqb _ _ c.if-s-at-eq-MINUS.false);
      from = omega arith;
      within = c.requires;
    }
