-- `skip_multibyte` meets its contract. The first byte, the second and the tails, one after the other.
use native.Mathlib.Nat.{le_trans}
use native.Mathlib.Omega.{arith}
use Rattle.rules.specs.Json.Strings.{multibyte}
use Rattle.json_tokens.proofs.Places.{here, ended, answer-from}
use Rattle.json_characters.proofs.utf8.skip_multibyte.Goals as goal

pub returns-then-s-at : goal.returns-then-s-at
unfolding multibyte
returns-then-s-at c = rw (ended _ _ c.if-s-at.true)

pub returns-in_err-low : goal.returns-in_err-low
unfolding multibyte
returns-in_err-low c = rw c.from_residual.ensures (rw (here _ _ c.if-s-at.false, multibyte, ← c.in_err-low.ensures))

pub returns-in_err-i : goal.returns-in_err-i
unfolding multibyte
returns-in_err-i c = rw c.from_residual-in_err-i.ensures (rw (here _ _ c.if-s-at.false, multibyte, ← c.in_ok-low.ensures, c.in_err-i.ensures))

pub skip_tails-requires : goal.skip_tails-requires
skip_tails-requires c = c.in_ok-i.ensures.2

pub returns : goal.returns
unfolding multibyte
returns c =
    answer-from _ _
    c.args.s.now
    _ _
    c.skip_tails.result
    c.skip_tails.ensures
    (le_trans (omega arith) c.in_ok-i.ensures.1)
    (rw (here _ _ c.if-s-at.false, multibyte, ← c.in_ok-low.ensures, c.in_ok-i.ensures.0))
