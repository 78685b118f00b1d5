-- `skip_frac` meets its contract. By the byte there, if any.
use borrow.Author.Tests.{ne_eqb}
use native.Mathlib.Omega.{arith}
use Rattle.rules.specs.Json.Numbers.{frac}
use Rattle.json_tokens.proofs.Places.{here, here-is, ended, answer-from}
use Rattle.json_tokens.proofs.numbers.skip_frac.Goals as goal

pub returns-then-s-at : goal.returns-then-s-at
unfolding frac
returns-then-s-at c = (rw (ended _ _ c.if-s-at.true), omega arith, c.requires)

pub returns-then-s-at-eq-DOT : goal.returns-then-s-at-eq-DOT
unfolding frac
returns-then-s-at-eq-DOT c =
    answer-from _ _
    c.args.s.now
    _ _
    c.skip_digits1.result
    c.skip_digits1.ensures
    (omega arith)
    (rw (here-is _ _ 0x2E c.if-s-at.false c.if-s-at-eq-DOT.true))

pub returns-else-s-at-eq-DOT : goal.returns-else-s-at-eq-DOT
unfolding frac
returns-else-s-at-eq-DOT c = (rw (here _ _ c.if-s-at.false, frac, ne_eqb _ _ c.if-s-at-eq-DOT.false), omega arith, c.requires)
