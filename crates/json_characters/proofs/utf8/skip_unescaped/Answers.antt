-- `skip_unescaped` meets its contract. A plain byte, or a longer character.
use mathlib.Core.Path.{sym, ◌∙◌}
use native.Mathlib.Omega.{arith}
use Rattle.rules.specs.Json.Strings.{unescaped}
use Rattle.json_tokens.proofs.Places.{here, ended, answer-from}
use Rattle.json_characters.proofs.utf8.skip_unescaped.Goals as goal

pub returns-then-s-at : goal.returns-then-s-at
unfolding unescaped
returns-then-s-at c = rw (ended _ _ c.if-s-at.true)

pub returns-then-is_plain : goal.returns-then-is_plain
unfolding unescaped
returns-then-is_plain c = (rw (here _ _ c.if-s-at.false, unescaped, sym c.is_plain.ensures ∙ c.if-is_plain.true), omega arith, omega arith)

pub returns-else-is_plain : goal.returns-else-is_plain
unfolding unescaped
returns-else-is_plain c =
    answer-from _ _
    c.args.s.now
    _ _
    c.skip_multibyte.result
    c.skip_multibyte.ensures
    (omega arith)
    (rw (here _ _ c.if-s-at.false, unescaped, sym c.is_plain.ensures ∙ c.if-is_plain.false))
