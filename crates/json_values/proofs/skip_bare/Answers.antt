-- `skip_bare` meets its contract: by the first byte a word or a number.
use mathlib.Core.Path.{sym, ap, ◌∙◌}
use native.Mathlib.Omega.{arith}
use Rattle.rules.specs.Bytes.{ascii}
use Rattle.rules.specs.Json.Numbers.{number}
use Rattle.rules.specs.Json.Values.{scalar}
use Rattle.rules.proofs.Json.Steps.{scalar-false, scalar-null, scalar-true, scalar-number}
use Rattle.json_tokens.proofs.Places.{here, here-is, answer-from}
use Rattle.json_values.proofs.skip_bare.Goals as goal

pub returns-in-102 : goal.returns-in-102
unfolding ascii
returns-in-102 c =
    answer-from _ _
    c.args.s.now
    _ _
    c.skip_word.result
    c.skip_word.ensures
    (omega arith)
    (ap scalar (here-is _ _ 0x66 c.requires.0 c.in-102.is) ∙ scalar-false _)

pub returns-in-110 : goal.returns-in-110
unfolding ascii
returns-in-110 c =
    answer-from _ _
    c.args.s.now
    _ _
    c.skip_word-in-110.result
    c.skip_word-in-110.ensures
    (omega arith)
    (ap scalar (here-is _ _ 0x6E c.requires.0 c.in-110.is) ∙ scalar-null _)

pub returns-in-116 : goal.returns-in-116
unfolding ascii
returns-in-116 c =
    answer-from _ _
    c.args.s.now
    _ _
    c.skip_word-in-116.result
    c.skip_word-in-116.ensures
    (omega arith)
    (ap scalar (here-is _ _ 0x74 c.requires.0 c.in-116.is) ∙ scalar-true _)

pub returns-in_default : goal.returns-in_default
returns-in_default c =
    let h = here _ _ c.requires.0 in
    answer-from _ _
    c.args.s.now
    _ _
    c.skip_number.result
    c.skip_number.ensures
    (omega arith)
    (ap scalar h ∙ scalar-number _ _ c.requires.1 (λ e. omega arith) (λ e. omega arith) (λ e. omega arith) ∙ ap number (sym h))
