-- `twenty_digits`: each answer by the first digit and what the others stand for.
use mathlib.Core.Path.{sym, ap, ◌∙◌}
use native.Mathlib.Omega.{arith}
use Rattle.std.proofs.lemmas.Result.{err_from_is_err_and}
use Rattle.rules.specs.Numbers.{is_digit}
use Rattle.rules.specs.Bytes.{among}
use Rattle.rules.specs.Query.{most_digits}
use Rattle.query_numbers.specs.Capping.{capped_is}
use Rattle.query_numbers.proofs.Cuts.{rest-length, twenty-other, twenty-none, twenty-zero, twenty-large}
use Rattle.query_numbers.proofs.twenty_digits.Goals as goal

pub bounds-v-0 : goal.bounds-v-0
unfolding most_digits
bounds-v-0 c = omega arith

pub returns-then-not-is_ascii_digit : goal.returns-then-not-is_ascii_digit
unfolding capped_is most_digits is_digit among
returns-then-not-is_ascii_digit c =
    ap capped_is (sym (twenty-other c.args.v.now c.requires (sym c.is_ascii_digit.ensures.value ∙ c.if-not-is_ascii_digit.true)))

pub short_digits-requires : goal.short_digits-requires
unfolding most_digits
short_digits-requires c = omega (arith, rest-length c.args.v.now)

pub returns-in_err-n : goal.returns-in_err-n
unfolding capped_is most_digits
returns-in_err-n c =
    let p = err_from_is_err_and c.from_residual.result c.from_residual.ensures.1 in
    rw (p.1, p.2)
    (rw c.in_err-n.ensures.ok_part at c.in_err-n.ensures.value
    ∙ ap capped_is (sym (twenty-none c.args.v.now c.requires (sym c.short_digits.ensures ∙ c.in_err-n.ensures.ok_part))))

pub returns-then-v-gt48 : goal.returns-then-v-gt48
unfolding capped_is most_digits is_digit among
returns-then-v-gt48 c =
    sym (twenty-large c.args.v.now c.requires c.if-v-gt48.true
    (sym c.is_ascii_digit.ensures.value ∙ c.if-not-is_ascii_digit.false)
    (sym c.short_digits.ensures ∙ c.in_ok-n.ensures.ok_part))

pub returns : goal.returns
unfolding most_digits
returns c =
    c.cap.ensures
    ∙ ap capped_is
    (sym (twenty-zero c.args.v.now c.requires (omega (arith, c.if-not-is_ascii_digit.ensures.cases))
    ∙ sym c.short_digits.ensures ∙ c.in_ok-n.ensures.ok_part))
