-- `skip_digits1` meets its contract. The first digit, and the run behind it.
use Rattle.std.specs.Prelude.{Some}
use mathlib.Core.Path.{sym, ap, ◌∙◌}
use Rattle.rules.specs.Json.Numbers.{digits1}
use Rattle.json_tokens.proofs.Places.{here, ended}
use Rattle.json_tokens.proofs.numbers.skip_digits1.Goals as goal

pub returns-then-s-at : goal.returns-then-s-at
unfolding digits1
returns-then-s-at c = rw (ended _ _ c.if-s-at.true)

pub returns-then-is_digit : goal.returns-then-is_digit
unfolding digits1
returns-then-is_digit c = (
  rw
      (here _ _ c.if-s-at.false, digits1, sym c.is_digit.ensures ∙ c.if-is_digit.true)
      (ap Some c.skip_digits.ensures.left),
  c.skip_digits.ensures.from,
  c.skip_digits.ensures.within,
)

pub returns-else-is_digit : goal.returns-else-is_digit
unfolding digits1
returns-else-is_digit c = rw (here _ _ c.if-s-at.false, digits1, sym c.is_digit.ensures ∙ c.if-is_digit.false)
