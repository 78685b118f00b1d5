-- `skip_exp` meets its contract. By the byte there, if any; the digits stand behind a sign.
use Prim.Native.Nat.{◌≤◌}
use borrow.Author.Tests.{ne_eqb}
use native.Mathlib.Nat.{le_trans}
use native.Mathlib.Omega.{arith}
use lib.ListN.{get_or}
use mathlib.Core.Logic.{inl, inr}
use Rattle.rules.specs.Bytes.{first}
use Rattle.rules.specs.Json.Numbers.{exp}
use Rattle.json_tokens.proofs.Places.{here, here-is, ended, answer-from}
use Rattle.json_tokens.proofs.numbers.skip_exp.Goals as goal

pub returns-then-s-at : goal.returns-then-s-at
unfolding exp
returns-then-s-at c = (rw (ended _ _ c.if-s-at.true), omega arith, c.requires)

pub returns-in-101 : goal.returns-in-101
unfolding exp first
returns-in-101 c =
    let l : c.args.at ≤ c.skip_sign.result = le_trans (omega arith) c.skip_sign.ensures.from in
    answer-from _ _
    c.args.s.now
    _ _
    c.skip_digits1.result
    c.skip_digits1.ensures
    (omega arith)
    (elim c.in-101.is [
      | inl e ↦ rw (here-is _ _ 0x45 c.if-s-at.false e, c.skip_sign.ensures.left)
      | inr e ↦ rw (here-is _ _ 0x65 c.if-s-at.false e, c.skip_sign.ensures.left)
    ])

pub returns-in_default : goal.returns-in_default
unfolding exp first
returns-in_default c =
    let b = get_or c.args.s.now c.args.at 0 in
    (rw (here _ _ c.if-s-at.false, exp, first, ne_eqb b 0x65 (grind arith), ne_eqb b 0x45 (grind arith)), omega arith, c.requires)
