-- `apply_add` puts the row of its line into the table, where its keys fit.
use mathlib.Core.Path.{◌≡◌, sym, subst}
use Rattle.std.specs.Prelude.{Some, None}
use Rattle.std.proofs.lemmas.Result.{err_from_is_err_and}
use Rattle.refusals.specs.declared.Refusal.TheVariants.{TooManyLive}
use Rattle.log_replay.specs.Answers.{PutIs}
use Rattle.log_replay.proofs.Doing.{add-fits, add-placed, did-add, did-full, did-foreign}
use native.Mathlib.Omega.{arith}
use Rattle.log_replay.proofs.apply_add.Goals as goal

pub overflow_add-from : goal.overflow_add-from
overflow_add-from c =
    let p = c.requires.carries in
    omega (arith, add-fits _ _ _ _ _ _ p.0 p.1 p.2 c.requires.action_is, p.0.short)

pub pack-head-requires : goal.pack-head-requires
pack-head-requires c =
    let p = c.requires.carries in
    (omega (arith, p.1.within, p.0.short), omega (arith, add-fits _ _ _ _ _ _ p.0 p.1 p.2 c.requires.action_is, p.0.short))

pub fits-requires : goal.fits-requires
fits-requires c =
    let p = c.requires.carries in
    let q = c.requires.action_is in
    record { paired = (record { ps = q.0.partition_values; pairing = q.2.values }, q.2.usual, p.0.meta_data); table_said = p.0.told }

pub returns-then-not-fits : goal.returns-then-not-fits
returns-then-not-fits c =
    let p = c.requires.carries in
    let q = c.requires.action_is in
    did-foreign _ _ _ _ _ _ p.0 p.1 p.2 q c.args.held (sym (c.if-not-fits.ensures q.0 q.2.values)) c.args.entry c.args.number

pub put_row-requires : goal.put_row-requires
put_row-requires c =
    let p = c.requires.carries in
    let placed = add-placed _ _ _ _ _ _ p.0 p.1 p.2 c.requires.action_is in
    (p.0.table, rw c.pack-head.ensures.path placed.spelled, p.0.few, p.0.room)

pub returns-in_err-r : goal.returns-in_err-r
returns-in_err-r c =
    let p = c.requires.carries in
    let q = c.requires.action_is in
    let e = err_from_is_err_and c.from_residual.result c.from_residual.ensures.1 in
    let full : c.put_row.result ≡ None = grind arith in
    let same : c.in_err-r.field-0.0 ≡ TooManyLive c.args.entry c.args.number = grind arith in
    rw (e.1, e.2, same)
    (did-full _ _ _ _ _ _ p.0 p.1 p.2 q _ c.pack-head.ensures c.args.held (sym (c.if-not-fits.ensures q.0 q.2.values)) c.args.entry c.args.number
    (subst (PutIs _ _ _ _ _ _ _) full c.put_row.ensures))

pub returns : goal.returns
returns c =
    let p = c.requires.carries in
    let q = c.requires.action_is in
    let put : c.put_row.result ≡ Some c.in_ok-r.r = grind arith in
    did-add _ _ _ _ _ _ p.0 p.1 p.2 q _ c.pack-head.ensures c.args.held (sym (c.if-not-fits.ensures q.0 q.2.values)) c.args.entry c.args.number _
    (subst (PutIs _ _ _ _ _ _ _) put c.put_row.ensures)
