-- `columns_stated` meets its contract. By what the field says.
use Rattle.rules.specs.Manifests.{columns_of}
use Rattle.field_scalars.proofs.Optionals.{there-twice, there-missing, there-none, there-some}
use Rattle.manifest_state.proofs.states.columns_stated.Goals as goal

pub returns-in_err-v : goal.returns-in_err-v
returns-in_err-v c = rw c.from_residual.ensures (there-twice columns_of c.in_err-v.ensures)

pub returns-in_default : goal.returns-in_default
returns-in_default c = there-missing columns_of (rw c.in_default.is at c.in_ok-v.ensures)

pub returns-in_err-at : goal.returns-in_err-at
returns-in_err-at c =
    let o = rw c.in-Some.is at c.in_ok-v.ensures in
    rw c.from_residual-in_err-at.ensures (there-none columns_of o.says c.in_err-at.ensures)

pub returns : goal.returns
returns c =
    let o = rw c.in-Some.is at c.in_ok-v.ensures in
    let w = c.in_ok-at.ensures in
    (w.columns, there-some columns_of o.says w.says, record { ordered = o.ordered; within = o.within; stand = w.stand })
