-- `value` meets its contract: a string, a container, or a number or word, by the first byte.
use mathlib.Core.Path.{sym, ap, ◌∙◌}
use native.Mathlib.Omega.{arith}
use Rattle.rules.specs.Json.Values.{scalar, value as rule_value}
use Rattle.rules.proofs.Json.Steps.{value-end, value-scalar, scalar-string}
use Rattle.json_tokens.proofs.Places.{here, here-is, ended, answer-from}
use Rattle.json_values.proofs.value.Goals as goal

pub returns-then-s-at : goal.returns-then-s-at
returns-then-s-at c = ap (rule_value c.args.depth) (ended _ _ c.if-s-at.true) ∙ value-end _

pub returns-then-end-eq0 : goal.returns-then-end-eq0
returns-then-end-eq0 c = c.value_within-end.ensures.nothing c.if-end-eq0.true

pub returns-in-34 : goal.returns-in-34
returns-in-34 c =
    answer-from _ _
    c.args.s.now
    _ _
    c.skip_string.result
    c.skip_string.ensures
    (omega arith)
    (ap (rule_value c.args.depth) (here-is _ _ 0x22 c.if-s-at.false c.in-34.is)
    ∙ value-scalar _ _ _ (λ e. omega arith) (λ e. omega arith) ∙ scalar-string _)

pub returns-else-end-eq0 : goal.returns-else-end-eq0
returns-else-end-eq0 c = c.value_within-end.ensures.found (omega arith)

pub returns-in_default : goal.returns-in_default
returns-in_default c =
    let h = here _ _ c.if-s-at.false in
    answer-from _ _
    c.args.s.now
    _ _
    c.skip_bare.result
    c.skip_bare.ensures
    (omega arith)
    (ap (rule_value c.args.depth) h ∙ value-scalar _ _ _ (grind arith) (grind arith) ∙ ap scalar (sym h))
