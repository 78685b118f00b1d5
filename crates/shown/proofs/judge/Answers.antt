-- `judge` meets its contract: no line, or what its add says.
use mathlib.Core.Path.{sym, ◌∙◌}
use Rattle.std.proofs.Common.{rules}
use Rattle.shown.proofs.Lines.{no_line, line-told, mapped}
use Rattle.shown.proofs.judge.Goals as goal

pub returns-then-not-is_line : goal.returns-then-not-is_line
returns-then-not-is_line c = no_line c.args.line.now (sym c.is_line.ensures ∙ c.if-not-is_line.true)

pub returns : goal.returns
returns c =
    mapped _ _ (λ a. (a.path, a.end, a.records)) c.map.ensures.cases (λ x y p. search rules)
    ∙ line-told c.args.line.now (sym c.is_line.ensures ∙ c.if-not-is_line.false) _ c.add_of.ensures
