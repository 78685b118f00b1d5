-- `apply` does what the line says that `classify` finds.
use Rattle.log_replay.proofs.Doing.{remove-fits, remove-placed, did-remove, did-protocol, did-meta_data}
use Rattle.log_replay.proofs.Doing.{skip-fits, skip-placed, did-mergeskip, did-other, did-malformed}
use native.Mathlib.Omega.{arith}
use Rattle.log_replay.proofs.apply.Goals as goal

pub apply_add-requires : goal.apply_add-requires
apply_add-requires c = record { carries = c.requires; action_is = rw c.in-Some-Add.field-0-is at c.in-Some-Add.ensures }

pub overflow_add-from : goal.overflow_add-from
overflow_add-from c =
    let q = rw c.in-Some-Remove.field-0-is at c.in-Some-Remove.ensures in
    omega (arith, remove-fits _ _ _ _ _ _ c.requires.0 c.requires.1 c.requires.2 q, c.requires.0.short)

pub take_out-r-requires : goal.take_out-r-requires
take_out-r-requires c =
    let q = rw c.in-Some-Remove.field-0-is at c.in-Some-Remove.ensures in
    (c.requires.0.table, (remove-placed _ _ _ _ _ _ c.requires.0 c.requires.1 c.requires.2 q).spelled, c.requires.0.few, c.requires.0.room)

pub overflow_add-from-in-Some-Mergeskip : goal.overflow_add-from-in-Some-Mergeskip
overflow_add-from-in-Some-Mergeskip c =
    let q = rw c.in-Some-Mergeskip.field-0-is at c.in-Some-Mergeskip.ensures in
    omega (arith, skip-fits _ _ _ _ _ _ c.requires.0 c.requires.1 c.requires.2 q, c.requires.0.short)

pub mark-requires : goal.mark-requires
mark-requires c =
    let q = rw c.in-Some-Mergeskip.field-0-is at c.in-Some-Mergeskip.ensures in
    (c.requires.0.table, (skip-placed _ _ _ _ _ _ c.requires.0 c.requires.1 c.requires.2 q).spelled, omega (arith, c.requires.0.few, c.requires.0.room))

pub returns-in-Some-Remove : goal.returns-in-Some-Remove
returns-in-Some-Remove c =
    did-remove _ _ _ _ _ _ c.requires.0 c.requires.1 c.requires.2 c.args.held c.args.entry c.args.number _
    (rw c.in-Some-Remove.field-0-is at c.in-Some-Remove.ensures)
    c.take_out-r.ensures

pub returns-in-Some-Protocol : goal.returns-in-Some-Protocol
returns-in-Some-Protocol c =
    did-protocol _ _ _ _ _ _ c.requires.0 c.requires.1 c.requires.2 c.args.held c.args.entry c.args.number
    (rw c.in-Some-Protocol.field-0-is at c.in-Some-Protocol.ensures)

pub returns-in-Some-MetaData : goal.returns-in-Some-MetaData
returns-in-Some-MetaData c =
    did-meta_data _ _ _ _ _ _ c.requires.0 c.requires.1 c.requires.2 c.args.held c.args.entry c.args.number
    (rw c.in-Some-MetaData.field-0-is at c.in-Some-MetaData.ensures)

pub returns-in-Some-Mergeskip : goal.returns-in-Some-Mergeskip
returns-in-Some-Mergeskip c =
    did-mergeskip _ _ _ _ _ _ c.requires.0 c.requires.1 c.requires.2 c.args.held c.args.entry c.args.number
    (rw c.in-Some-Mergeskip.field-0-is at c.in-Some-Mergeskip.ensures)
    (c.mark.ensures c.args.limit c.requires.0.few c.requires.0.room)

pub returns-in-Some-Other : goal.returns-in-Some-Other
returns-in-Some-Other c =
    did-other _ _ _ _ _ _ c.requires.0 c.requires.1 c.requires.2 c.args.held c.args.entry c.args.number
    (rw c.in-Some-Other.field-0-is at c.in-Some-Other.ensures)

pub returns-in-None : goal.returns-in-None
returns-in-None c = did-malformed _ _ _ _ _ _ c.requires.0 c.requires.1 c.requires.2 c.args.held c.args.entry c.args.number c.in-None.ensures
