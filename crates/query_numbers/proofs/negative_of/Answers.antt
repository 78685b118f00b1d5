-- `negative_of`: each answer by what the digits stand for.
use mathlib.Core.Path.{sym, ap, ◌∙◌}
use Rattle.std.specs.Prelude.{Ok}
use Rattle.std.proofs.lemmas.Result.{err_from_is_err_and}
use Rattle.query_numbers.specs.Answers.{numeral_is}
use Rattle.query_numbers.proofs.Queries.{negative-refused, negative-in, signed-minus}
use Rattle.query_numbers.proofs.negative_of.Goals as goal

pub returns-in_err-n : goal.returns-in_err-n
returns-in_err-n c =
    let p = err_from_is_err_and c.from_residual.result c.from_residual.ensures.1 in
    rw (p.1, p.2) (sym (negative-refused _ _ (sym c.in_err-n.ensures)))

pub returns : goal.returns
unfolding numeral_is
returns c = ap Ok (sym (signed-minus c.in_ok-n.n)) ∙ ap numeral_is (sym (negative-in _ (sym c.in_ok-n.ensures)))
