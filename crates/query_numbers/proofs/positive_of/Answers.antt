-- `positive_of`: each answer by what the digits stand for.
use mathlib.Core.Path.{sym, ap}
use native.Mathlib.Omega.{arith}
use Rattle.std.proofs.lemmas.Result.{err_from_is_err_and}
use Rattle.rules.specs.Numbers.{most}
use Rattle.query_numbers.specs.Answers.{numeral_is, signed_of}
use Rattle.query_numbers.proofs.Queries.{positive-refused, positive-out, positive-in}
use Rattle.query_numbers.proofs.positive_of.Goals as goal

pub returns-in_err-n : goal.returns-in_err-n
returns-in_err-n c =
    let p = err_from_is_err_and c.from_residual.result c.from_residual.ensures.1 in
    rw (p.1, p.2) (sym (positive-refused _ _ (sym c.in_err-n.ensures)))

pub returns-then-n-gt-MOST : goal.returns-then-n-gt-MOST
unfolding numeral_is most
returns-then-n-gt-MOST c = ap numeral_is (sym (positive-out _ (sym c.in_ok-n.ensures) (omega arith)))

pub returns : goal.returns
unfolding numeral_is signed_of most
returns c = ap numeral_is (sym (positive-in _ (sym c.in_ok-n.ensures) (omega arith)))
