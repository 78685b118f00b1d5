-- `action_in` meets its contract, by the places.
use Rattle.field_names.specs.Kinds.{names_of}
use Rattle.line_actions.proofs.Lines.{place-four}
use Rattle.line_actions.proofs.Slotted.{lined-slots}
use Rattle.line_actions.proofs.line.action_in.Goals as goal

pub add_in-requires : goal.add_in-requires
unfolding names_of
add_in-requires c =
    lined-slots c.args.line.now c.args.f.slots c.if-k-eq-ADD.true c.requires.1

pub remove_in-requires : goal.remove_in-requires
unfolding names_of
remove_in-requires c =
    lined-slots c.args.line.now c.args.f.slots c.if-k-eq-REMOVE.true c.requires.1

pub protocol_in-requires : goal.protocol_in-requires
unfolding names_of
protocol_in-requires c =
    lined-slots c.args.line.now c.args.f.slots c.if-k-eq-PROTOCOL.true c.requires.1

pub meta_data_in-requires : goal.meta_data_in-requires
unfolding names_of
meta_data_in-requires c =
    lined-slots c.args.line.now c.args.f.slots c.if-k-eq-META_DATA.true c.requires.1

pub mergeskip_in-requires : goal.mergeskip_in-requires
unfolding names_of
mergeskip_in-requires c =
    lined-slots
    c.args.line.now
    c.args.f.slots
    (place-four c.args.k c.requires.0 c.if-k-eq-ADD.false c.if-k-eq-REMOVE.false c.if-k-eq-PROTOCOL.false c.if-k-eq-META_DATA.false)
    c.requires.1
