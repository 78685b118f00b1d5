-- `numeral_of`: each answer by whether there is a minus in front.
use mathlib.Core.Path.{sym, ap, ◌∙◌}
use Rattle.query_numbers.specs.Answers.{numeral_is}
use Rattle.query_numbers.proofs.Queries.{number-minus, number-plain}
use Rattle.query_numbers.proofs.numeral_of.Goals as goal

pub returns-in-Some : goal.returns-in-Some
returns-in-Some c =
    c.negative_of.ensures ∙ ap numeral_is (sym (number-minus c.args.v.now c.in-Some.digits.now c.in-Some.ensures.cases.0 c.in-Some.ensures.cases.1))

pub returns-in-None : goal.returns-in-None
returns-in-None c = c.positive_of.ensures ∙ ap numeral_is (sym (number-plain c.args.v.now c.in-None.ensures.cases))
