use mathlib.Core.Path.{ap, ◌∙◌}
use native.Mathlib.Omega.{arith}
use Rattle.rules.specs.Json.Values.{onward}
use Rattle.rules.proofs.Json.Steps.{closing_end, closing-close, closing-comma, closing-other}
use Rattle.json_tokens.proofs.Places.{here, here-is, ended}
use Rattle.json_values.proofs.closing.Goals as goal

pub returns-then-s-i : goal.returns-then-s-i
returns-then-s-i c = closing_end _ _ (c.skip_ws-i.ensures.left ∙ ended _ _ c.if-s-i.true)

pub returns-then-b-close : goal.returns-then-b-close
returns-then-b-close c = (
  closing-close _ _ (c.skip_ws-i.ensures.left ∙ here-is _ _ _ c.if-s-i.false c.if-b-close.true),
  omega arith,
  omega arith,
)

pub returns-then-b-eq-COMMA : goal.returns-then-b-eq-COMMA
returns-then-b-eq-COMMA c = (
  closing-comma _ _
      (c.skip_ws-i.ensures.left
      ∙ here-is _ _ _ c.if-s-i.false c.if-b-eq-COMMA.true)
      (λ e. c.if-b-close.false (c.if-b-eq-COMMA.true ∙ e)) ∙ ap onward c.skip_ws.ensures.left,
  omega arith,
  c.skip_ws.ensures.within,
)

pub returns-else-b-eq-COMMA : goal.returns-else-b-eq-COMMA
returns-else-b-eq-COMMA c =
    closing-other _ _
    (c.skip_ws-i.ensures.left ∙ here _ _ c.if-s-i.false)
    c.if-b-close.false
    c.if-b-eq-COMMA.false
