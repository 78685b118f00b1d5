-- `escape` meets its contract. A u and its digits, or a short escape.
use Prim.Native.Nat.{◌≤◌}
use borrow.Author.Tests.{ne_eqb}
use native.Mathlib.Omega.{arith}
use Rattle.rules.specs.Json.Strings.{escaped}
use Rattle.json_tokens.proofs.Places.{here, here-is, ended}
use Rattle.json_characters.proofs.Taking.{taken-from}
use Rattle.json_characters.proofs.escapes.escape.Goals as goal

pub returns-then-s-at : goal.returns-then-s-at
unfolding escaped
returns-then-s-at c = rw (ended _ _ c.if-s-at.true)

pub returns-then-b-eq-SMALL_U : goal.returns-then-b-eq-SMALL_U
unfolding escaped
returns-then-b-eq-SMALL_U c =
    taken-from _ _
    c.args.s.now
    _ _ _
    c.code_point.result
    c.code_point.ensures
    (omega arith)
    (rw (here-is _ _ 0x75 c.if-s-at.false c.if-b-eq-SMALL_U.true))

pub returns-in_err-c : goal.returns-in_err-c
unfolding escaped
returns-in_err-c c =
    rw c.from_residual.ensures (rw (here _ _ c.if-s-at.false, escaped, ne_eqb _ 0x75 c.if-b-eq-SMALL_U.false, c.in_err-c.ensures))

pub returns : goal.returns
unfolding escaped
returns c =
    let l : c.in_ok-c.c ≤ 0x5C = c.in_ok-c.ensures.1 in (
      rw (
        here _ _ c.if-s-at.false,
        escaped,
        ne_eqb _ 0x75 c.if-b-eq-SMALL_U.false,
        c.in_ok-c.ensures.0,
        c.from.ensures,
      ),
      omega arith,
      omega arith,
      omega (arith, c.from.ensures),
    )
