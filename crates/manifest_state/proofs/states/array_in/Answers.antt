-- `array_in` meets its contract. By how often the field was seen.
use mathlib.Core.Path.{sym, ◌∙◌}
use native.Mathlib.Omega.{arith}
use lib.ListN.{get_or}
use Rattle.field_names.specs.Kinds.{names_of}
use Rattle.field_objects.specs.Slots.{missing}
use Rattle.field_names.specs.declared.kinds.Kind.TheVariants.{State}
use Rattle.field_scalars.proofs.Single.{inside-single, text-single, text-not-single}
use Rattle.field_scalars.proofs.Stated.{each-inside}
use Rattle.manifest_state.specs.States.{manifests_of}
use Rattle.manifest_state.proofs.Stating.{state-none, state-by}
use Rattle.manifest_state.proofs.states.array_in.Goals as goal

pub returns-in_err-f : goal.returns-in_err-f
returns-in_err-f c = rw c.from_residual.ensures (state-none _ c.in_err-f.ensures)

pub returns-then-slot-ne1 : goal.returns-then-slot-ne1
returns-then-slot-ne1 c =
    let ob = c.in_ok-f.ensures in
    state-by c.args.s.now ob.ms c.in_ok-f.f.slots ob.all ob.each
    ∙ sym (text-not-single c.args.s.now (get_or c.in_ok-f.f.slots 0 missing) manifests_of c.if-slot-ne1.true)

pub returns : goal.returns
unfolding names_of
returns c =
    let ob = c.in_ok-f.ensures in
    let slot = get_or c.in_ok-f.f.slots 0 missing in
    let b = inside-single c.args.s.now slot c.if-slot-ne1.false
    (each-inside c.args.s.now (names_of State) ob.ms c.in_ok-f.f.slots 0 (omega arith) ob.each) in
    (state-by c.args.s.now ob.ms c.in_ok-f.f.slots ob.all ob.each ∙ sym (text-single c.args.s.now slot manifests_of c.if-slot-ne1.false), b.0, b.1)
