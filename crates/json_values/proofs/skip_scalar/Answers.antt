use mathlib.Core.Path.{ap, ◌∙◌}
use native.Mathlib.Omega.{arith}
use Rattle.rules.specs.Json.Values.{scalar}
use Rattle.rules.proofs.Json.Steps.{scalar-string}
use Rattle.json_tokens.proofs.Places.{here-is, ended, answer-from}
use Rattle.json_values.proofs.skip_scalar.Goals as goal

pub returns-then-s-at : goal.returns-then-s-at
unfolding scalar
returns-then-s-at c = rw (ended _ _ c.if-s-at.true)

pub returns-then-s-at-eq-QUOTE : goal.returns-then-s-at-eq-QUOTE
returns-then-s-at-eq-QUOTE c =
    answer-from _ _
    c.args.s.now
    _ _
    c.skip_string.result
    c.skip_string.ensures
    (omega arith)
    (ap scalar (here-is _ _ 0x22 c.if-s-at.false c.if-s-at-eq-QUOTE.true) ∙ scalar-string _)
