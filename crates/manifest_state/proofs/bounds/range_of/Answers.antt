-- `range_of` meets its contract. By what the two fields say.
use mathlib.Core.Path.{◌≡◌}
use native.Mathlib.Omega.{arith}
use lib.ListN.{get_or}
use Rattle.rules.specs.Manifests.{bounds_of}
use Rattle.field_names.specs.Kinds.{names_of}
use Rattle.field_objects.specs.Slots.{missing}
use Rattle.field_names.specs.declared.kinds.Kind.TheVariants.{Bounds}
use Rattle.field_scalars.proofs.Stated.{each-inside}
use Rattle.manifest_state.specs.Ranges.{optional_string_in}
use Rattle.manifest_state.proofs.Bounded.{bounds_by, bounds-none, bounds-by, range-no-min, range-no-max, range-zipped}
use Rattle.manifest_state.proofs.bounds.range_of.Goals as goal
use Rattle.manifest_state.proofs.bounds.range_of.Goals.{In_ok-f}

-- the bounds are those of the two fields
stated : (c : In_ok-f) → bounds_of c.args.t.now
    ≡ bounds_by (optional_string_in c.args.t.now (get_or c.in_ok-f.f.slots 0 missing)) (optional_string_in c.args.t.now (get_or c.in_ok-f.f.slots 1 missing))
stated c = let ob = c.in_ok-f.ensures in bounds-by c.args.t.now ob.ms c.in_ok-f.f.slots ob.all ob.each

pub returns-in_err-f : goal.returns-in_err-f
returns-in_err-f c = rw c.from_residual.ensures (bounds-none _ c.in_err-f.ensures)

pub bound_in-requires : goal.bound_in-requires
unfolding names_of
bound_in-requires c =
    let ob = c.in_ok-f.ensures in
    each-inside c.args.t.now (names_of Bounds) ob.ms c.in_ok-f.f.slots 0 (omega arith) ob.each

pub returns-in_err-min : goal.returns-in_err-min
returns-in_err-min c =
    rw c.from_residual-in_err-min.ensures
    (range-no-min _ (optional_string_in c.args.t.now (get_or c.in_ok-f.f.slots 1 missing)) (stated (goal.at.returns-in_err-min c).In_ok-f)
    c.in_err-min.ensures)

pub bound_in-requires-2 : goal.bound_in-requires-2
unfolding names_of
bound_in-requires-2 c =
    let ob = c.in_ok-f.ensures in
    each-inside c.args.t.now (names_of Bounds) ob.ms c.in_ok-f.f.slots 1 (omega arith) ob.each

pub returns-in_err-max : goal.returns-in_err-max
returns-in_err-max c =
    rw c.from_residual-in_err-max.ensures
    (range-no-max (optional_string_in c.args.t.now (get_or c.in_ok-f.f.slots 0 missing)) _ (stated (goal.at.returns-in_err-max c).In_ok-f)
    c.in_err-max.ensures)

pub returns : goal.returns
returns c =
    rw c.zip.ensures
    (range-zipped _ _ (stated (goal.at.returns c).In_ok-f) c.args.t.now c.in_ok-min.min c.in_ok-max.max c.in_ok-min.ensures c.in_ok-max.ensures)
