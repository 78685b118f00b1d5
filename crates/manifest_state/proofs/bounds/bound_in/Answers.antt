-- `bound_in` meets its contract. By what the field says.
use Rattle.rules.specs.Json.Fields.{string_of}
use Rattle.field_scalars.proofs.Optionals.{there-twice, there-missing, there-none}
use Rattle.manifest_state.proofs.Bounded.{bound-spelled}
use Rattle.manifest_state.proofs.bounds.bound_in.Goals as goal

pub returns-in_err-v : goal.returns-in_err-v
returns-in_err-v c = rw c.from_residual.ensures (there-twice string_of c.in_err-v.ensures)

pub returns-in_default : goal.returns-in_default
returns-in_default c = there-missing string_of (rw c.in_default.is at c.in_ok-v.ensures)

pub returns-in_err-p : goal.returns-in_err-p
returns-in_err-p c =
    let o = rw c.in-Some.is at c.in_ok-v.ensures in
    rw c.from_residual-in_err-p.ensures (there-none string_of o.says c.in_err-p.ensures)

pub returns : goal.returns
returns c =
    let o = rw c.in-Some.is at c.in_ok-v.ensures in
    bound-spelled c.args.t.now c.in_ok-p.p o.says c.in_ok-p.ensures.0
