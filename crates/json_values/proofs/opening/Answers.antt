use mathlib.Core.Path.{sym, ap, ◌∙◌}
use native.Mathlib.Omega.{arith}
use Rattle.rules.specs.Json.Values.{onward}
use Rattle.rules.proofs.Json.Steps.{opening-end, opening-close, opening-item}
use Rattle.json_tokens.proofs.Places.{here, here-is, ended}
use Rattle.json_values.proofs.opening.Goals as goal

pub returns-then-s-i : goal.returns-then-s-i
returns-then-s-i c = opening-end _ _ (c.skip_ws-i.ensures.left ∙ ended _ _ c.if-s-i.true)

pub returns-then-s-i-2 : goal.returns-then-s-i-2
returns-then-s-i-2 c = (
  opening-close _ _ (c.skip_ws-i.ensures.left ∙ here-is _ _ _ c.if-s-i.false c.if-s-i-2.true),
  omega arith,
  omega arith,
)

pub returns-else-s-i-2 : goal.returns-else-s-i-2
returns-else-s-i-2 c =
    let h = here _ _ c.if-s-i.false in
    (opening-item _ _ (c.skip_ws-i.ensures.left ∙ h) c.if-s-i-2.false ∙ ap onward (sym h), c.skip_ws-i.ensures.from, c.skip_ws-i.ensures.within)
