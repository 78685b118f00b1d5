-- `usual_head` meets its contract. The bytes of the word are there, and a line that begins with them has its key.
use mathlib.Core.Path.{sym, subst, ◌∙◌}
use Rattle.rules.specs.Json.Text.{Text}
use Rattle.line_actions.specs.Begun.{Begun}
use Rattle.line_actions.proofs.Usual.{add-begun, remove-begun, begun-by}
use Rattle.line_actions.proofs.line.usual_head.Goals as goal

pub returns-then-is_some : goal.returns-then-is_some
returns-then-is_some c =
    let (r, e) = begun-by _ c.args.line.now _ c.skip_word.ensures (sym c.is_some.ensures ∙ c.if-is_some.true) in
    subst (λ (s : Text). Begun s 0 7) (sym e) (add-begun r)

pub returns-then-is_some-2 : goal.returns-then-is_some-2
returns-then-is_some-2 c =
    let (r, e) = begun-by _ c.args.line.now _ c.skip_word-2.ensures (sym c.is_some-2.ensures ∙ c.if-is_some-2.true) in
    subst (λ (s : Text). Begun s 1 10) (sym e) (remove-begun r)
