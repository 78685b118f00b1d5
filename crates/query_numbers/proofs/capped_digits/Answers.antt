-- `capped_digits`: each answer by the length.
use mathlib.Core.Path.{sym, ap, ◌∙◌}
use native.Mathlib.Omega.{arith}
use Rattle.std.proofs.lemmas.Result.{err_from_is_err_and}
use Rattle.rules.specs.Query.{most_digits}
use Rattle.query_numbers.specs.Capping.{capped_is}
use Rattle.query_numbers.proofs.Queries.{digits-many, digits-few}
use Rattle.query_numbers.proofs.capped_digits.Goals as goal

pub returns-then-v-gt-MOST_DIGITS : goal.returns-then-v-gt-MOST_DIGITS
unfolding capped_is
returns-then-v-gt-MOST_DIGITS c = ap capped_is (sym (digits-many c.args.v.now (omega arith)))

pub twenty_digits-requires : goal.twenty_digits-requires
unfolding most_digits
twenty_digits-requires c = omega arith

pub returns-then-v-gt-SAFE_DIGITS : goal.returns-then-v-gt-SAFE_DIGITS
returns-then-v-gt-SAFE_DIGITS c = c.twenty_digits.ensures ∙ ap capped_is (sym (digits-few c.args.v.now (omega arith)))

pub returns-in_err-n : goal.returns-in_err-n
unfolding capped_is
returns-in_err-n c =
    let p = err_from_is_err_and c.from_residual.result c.from_residual.ensures.1 in
    rw (p.1, p.2)
    (rw c.in_err-n.ensures.ok_part at c.in_err-n.ensures.value
    ∙ ap capped_is (sym (digits-few c.args.v.now (omega arith) ∙ sym c.short_digits.ensures ∙ c.in_err-n.ensures.ok_part)))

pub returns : goal.returns
returns c = c.cap.ensures ∙ ap capped_is (sym (digits-few c.args.v.now (omega arith) ∙ sym c.short_digits.ensures ∙ c.in_ok-n.ensures.ok_part))
