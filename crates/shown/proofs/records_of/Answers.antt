-- `records_of` meets its contract.
use mathlib.Core.Path.{◌∙◌}
use Rattle.std.proofs.Common.{rules}
use Rattle.shown.proofs.Lines.{mapped, records-told}
use Rattle.shown.proofs.records_of.Goals as goal

pub returns : goal.returns
returns c = mapped _ _ (λ a. a.2) c.map.ensures.cases (λ x y p. search rules) ∙ records-told _ _ c.judge.ensures
