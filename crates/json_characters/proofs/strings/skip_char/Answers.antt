-- `skip_char` meets its contract. An escape, or a character that stands for itself.
use borrow.Author.Tests.{ne_eqb}
use native.Mathlib.Nat.{le_trans}
use native.Mathlib.Omega.{arith}
use Rattle.rules.specs.Json.Strings.{unescaped, char}
use Rattle.rules.proofs.Json.Shadows.{behind-spelled}
use Rattle.json_tokens.proofs.Places.{here, here-is, ended, answer-from}
use Rattle.json_characters.proofs.strings.skip_char.Goals as goal

pub returns-then-s-at : goal.returns-then-s-at
unfolding char
returns-then-s-at c = rw (ended _ _ c.if-s-at.true)

pub returns-in_err-i : goal.returns-in_err-i
unfolding char
returns-in_err-i c =
    rw c.from_residual.ensures (rw (here-is _ _ 0x5C c.if-s-at.false c.if-s-at-eq-BACKSLASH.true, c.in_err-i.ensures))

pub returns-in_ok-i : goal.returns-in_ok-i
unfolding char
returns-in_ok-i c = (
  rw (here-is _ _ 0x5C c.if-s-at.false c.if-s-at-eq-BACKSLASH.true, c.in_ok-i.ensures.0),
  le_trans (omega arith) c.in_ok-i.ensures.1,
  c.in_ok-i.ensures.2,
)

pub returns-else-s-at-eq-BACKSLASH : goal.returns-else-s-at-eq-BACKSLASH
unfolding char
returns-else-s-at-eq-BACKSLASH c =
    answer-from _ _
    c.args.s.now
    _ _
    c.skip_unescaped.result
    c.skip_unescaped.ensures
    (omega arith)
    (rw (here _ _ c.if-s-at.false, char, ne_eqb _ 0x5C c.if-s-at-eq-BACKSLASH.false) (behind-spelled unescaped _))
