-- `records_in`: by whether the field is there, and by the number that its value is.
use mathlib.Core.Path.{sym, subst}
use Rattle.std.specs.Prelude.{Some}
use Rattle.rules.specs.Json.Numbers.{whole}
use Rattle.field_scalars.specs.Optionals.{optional_of, OptionalIs}
use Rattle.field_scalars.proofs.Optionals.{there-missing, there-none, there-some}
use Rattle.field_scalars.proofs.records_in.Goals as goal

pub returns-in_default : goal.returns-in_default
returns-in_default c =
    let o = subst (λ q. OptionalIs (optional_of c.args.s.now c.args.slot) c.args.s.now c.args.slot (Some q)) c.in_default.is c.in_ok-v.ensures in
    sym (there-missing whole o)

pub returns-in_err-n : goal.returns-in_err-n
returns-in_err-n c =
    let o = subst (λ q. OptionalIs (optional_of c.args.s.now c.args.slot) c.args.s.now c.args.slot (Some q)) c.in-Some.is c.in_ok-v.ensures in
    rw c.from_residual-in_err-n.ensures (sym (there-none whole o.says (sym c.in_err-n.ensures)))

pub returns : goal.returns
returns c =
    let o = subst (λ q. OptionalIs (optional_of c.args.s.now c.args.slot) c.args.s.now c.args.slot (Some q)) c.in-Some.is c.in_ok-v.ensures in
    sym (there-some whole o.says (sym c.in_ok-n.ensures))
