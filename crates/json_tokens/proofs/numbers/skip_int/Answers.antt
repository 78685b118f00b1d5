-- `skip_int` meets its contract. By the byte there, if any: a zero, or the first of more digits.
use borrow.Author.Tests.{ne_eqb}
use native.Mathlib.Omega.{arith}
use Rattle.rules.specs.Json.Numbers.{int}
use Rattle.json_tokens.proofs.Places.{here, here-is, ended, answer-from}
use Rattle.json_tokens.proofs.numbers.skip_int.Goals as goal

pub returns-then-s-at : goal.returns-then-s-at
unfolding int
returns-then-s-at c = rw (ended _ _ c.if-s-at.true)

pub returns-then-s-at-eq-ZERO : goal.returns-then-s-at-eq-ZERO
unfolding int
returns-then-s-at-eq-ZERO c = (rw (here-is _ _ 0x30 c.if-s-at.false c.if-s-at-eq-ZERO.true), omega arith, omega arith)

pub returns-else-s-at-eq-ZERO : goal.returns-else-s-at-eq-ZERO
unfolding int
returns-else-s-at-eq-ZERO c =
    answer-from _ _
    c.args.s.now
    _ _
    c.skip_digits1.result
    c.skip_digits1.ensures
    (omega arith)
    (rw (here _ _ c.if-s-at.false, int, ne_eqb _ _ c.if-s-at-eq-ZERO.false))
