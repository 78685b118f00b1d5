-- What nineteen digits stand for, and the twentieth behind them.
use mathlib.Core.Path.{◌≡◌, ap}
use Rattle.std.specs.Prelude.{Err}
use Rattle.std.proofs.lemmas.Result.{err_from_is_err_and}
use Rattle.file_names.specs.Names.{digits_is}
use Rattle.file_names.specs.declared.Name.TheVariants.{Other}
use Rattle.file_names.proofs.Twenty.{twenty-parts}
use Rattle.file_names.proofs.twenty_digits.Goals as goal

pub returns-in_err-v : goal.returns-in_err-v
unfolding digits_is
returns-in_err-v c =
    let p = err_from_is_err_and c.from_residual.result c.from_residual.ensures.1 in
    let e : c.in_err-v.field-0.0 ≡ Other = cc (rw c.in_err-v.ensures.ok_part at c.in_err-v.ensures.value) in
    rw (p.1, p.2, twenty-parts c.args.n.now c.requires, ← c.short_digits.ensures, c.in_err-v.ensures.ok_part) (ap Err e)

pub returns : goal.returns
returns c = rw (twenty-parts c.args.n.now c.requires, ← c.short_digits.ensures, c.in_ok-v.ensures.ok_part) c.last_digit.ensures
