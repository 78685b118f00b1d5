-- What the marker says by the slots of its three fields, as `Markers` has it.
use mathlib.Core.Path.{sym, ◌∙◌}
use Rattle.rules.specs.Actions.{in_line}
use Rattle.field_names.specs.Kinds.{names_of}
use Rattle.field_names.specs.declared.kinds.Kind.TheVariants.{Marker}
use Rattle.field_scalars.proofs.Stated.{each-inside}
use Rattle.log_starts.proofs.Markers.{marker-none, marker-parts, marker-format}
use native.Mathlib.Omega.{arith}
use Rattle.log_starts.proofs.marker_version.Goals as goal

pub returns-in_err-f : goal.returns-in_err-f
unfolding in_line
returns-in_err-f c = rw c.from_residual.ensures (sym (marker-none c.args.t.now c.in_err-f.ensures))

pub returns-then-parts-ne0 : goal.returns-then-parts-ne0
unfolding in_line
returns-then-parts-ne0 c =
    let m = c.in_ok-f.ensures in
    sym (marker-parts c.args.t.now m.ms m.all c.in_ok-f.f.slots m.each c.if-parts-ne0.true)

pub format_fits-requires : goal.format_fits-requires
unfolding names_of
format_fits-requires c =
    let m = c.in_ok-f.ensures in
    each-inside c.args.t.now (names_of Marker) m.ms c.in_ok-f.f.slots 2 (omega arith) m.each

pub whole_in-requires : goal.whole_in-requires
unfolding names_of
whole_in-requires c =
    let m = c.in_ok-f.ensures in
    each-inside c.args.t.now (names_of Marker) m.ms c.in_ok-f.f.slots 0 (omega arith) m.each

pub returns-then-format_fits : goal.returns-then-format_fits
unfolding in_line
returns-then-format_fits c =
    let m = c.in_ok-f.ensures in
    c.whole_in.ensures ∙ sym (marker-format c.args.t.now m.ms m.all c.in_ok-f.f.slots m.each c.if-parts-ne0.false c.if-format_fits.ensures)

pub returns : goal.returns
unfolding in_line
returns c =
    let m = c.in_ok-f.ensures in
    sym (marker-format c.args.t.now m.ms m.all c.in_ok-f.f.slots m.each c.if-parts-ne0.false c.if-format_fits.ensures)
