-- `manifest_of` meets its contract. By its path, and by the columns that it states.
use mathlib.Core.Path.{◌∙◌}
use native.Mathlib.Omega.{arith}
use lib.ListN.{get_or}
use Rattle.field_names.specs.Kinds.{names_of}
use Rattle.field_objects.specs.Slots.{missing}
use Rattle.field_names.specs.declared.kinds.Kind.TheVariants.{Manifest}
use Rattle.field_scalars.specs.Inside.{string_in}
use Rattle.field_scalars.proofs.Stated.{each-inside}
use Rattle.manifest_state.specs.States.{columns_stated}
use Rattle.manifest_state.proofs.Stating.{manifest-none, manifest-by, manifest-pathless, manifest-path, manifest-stated}
use Rattle.manifest_state.proofs.states.manifest_of.Goals as goal

pub returns-in_err-f : goal.returns-in_err-f
returns-in_err-f c = rw c.from_residual.ensures (manifest-none _ c.in_err-f.ensures)

pub some_string_in-requires : goal.some_string_in-requires
unfolding names_of
some_string_in-requires c =
    let ob = c.in_ok-f.ensures in
    each-inside c.args.t.now (names_of Manifest) ob.ms c.in_ok-f.f.slots 0 (omega arith) ob.each

pub returns-in_err-some_string_in : goal.returns-in_err-some_string_in
returns-in_err-some_string_in c =
    let ob = c.in_ok-f.ensures in
    let path = string_in c.args.t.now (get_or c.in_ok-f.f.slots 0 missing) in
    let columns = columns_stated c.args.t.now (get_or c.in_ok-f.f.slots 1 missing) in
    rw c.from_residual-in_err-some_string_in.ensures
    (manifest-by c.args.t.now ob.ms c.in_ok-f.f.slots ob.all ob.each ∙ manifest-pathless path columns c.in_err-some_string_in.ensures)

pub columns_stated-requires : goal.columns_stated-requires
unfolding names_of
columns_stated-requires c =
    let ob = c.in_ok-f.ensures in
    each-inside c.args.t.now (names_of Manifest) ob.ms c.in_ok-f.f.slots 1 (omega arith) ob.each

pub returns : goal.returns
returns c =
    let ob = c.in_ok-f.ensures in
    let path = string_in c.args.t.now (get_or c.in_ok-f.f.slots 0 missing) in
    let columns = columns_stated c.args.t.now (get_or c.in_ok-f.f.slots 1 missing) in
    manifest-stated _ columns _
    (manifest-by c.args.t.now ob.ms c.in_ok-f.f.slots ob.all ob.each ∙ manifest-path path columns c.in_ok-some_string_in.ensures.0.says)
    c.args.t.now c.columns_stated.result c.columns_stated.ensures
