-- `values_in` meets its contract. One field, an object, whose members are partition values.
use mathlib.Core.Path.{sym}
use Rattle.field_containers.specs.Nested.{values_of}
use Rattle.field_scalars.proofs.Single.{proper-single, text-not-single}
use Rattle.field_containers.proofs.Partitions.{values-no-object, values-opened, values-refused, values-there}
use native.Mathlib.Omega.{arith}
use Rattle.field_containers.proofs.nested.values_in.Goals as goal

pub returns-then-slot-ne1 : goal.returns-then-slot-ne1
returns-then-slot-ne1 c =
    sym (text-not-single c.args.s.now c.args.slot values_of c.if-slot-ne1.true)

pub skip_byte-requires : goal.skip_byte-requires
skip_byte-requires c =
    let b = proper-single c.args.s.now c.args.slot c.if-slot-ne1.false c.requires in omega (arith, b.0, b.1)

pub returns-in_err-at : goal.returns-in_err-at
returns-in_err-at c =
    rw c.from_residual.ensures (values-no-object c.args.s.now c.args.slot c.requires c.if-slot-ne1.false c.in_err-at.ensures)

pub are_values-requires : goal.are_values-requires
are_values-requires c =
    let q = c.in_ok-at.ensures in
    (q.2, values-opened c.args.s.now c.args.slot c.requires c.if-slot-ne1.false c.in_ok-at.at q.2 q.0)

pub returns-in_err-usual : goal.returns-in_err-usual
returns-in_err-usual c =
    let q = c.in_ok-at.ensures in
    rw c.from_residual-in_err-usual.ensures
    (values-refused c.args.s.now c.args.slot c.requires c.if-slot-ne1.false c.in_ok-at.at q.2 q.0
    (c.in_err-usual.ensures (values-opened c.args.s.now c.args.slot c.requires c.if-slot-ne1.false c.in_ok-at.at q.2 q.0)))

pub returns : goal.returns
returns c =
    let q = c.in_ok-at.ensures in
    let j = c.in_ok-usual.ensures (values-opened c.args.s.now c.args.slot c.requires c.if-slot-ne1.false c.in_ok-at.at q.2 q.0) in
    values-there c.args.s.now c.args.slot c.requires c.if-slot-ne1.false c.in_ok-at.at q.2 q.0 j.0 j.1
