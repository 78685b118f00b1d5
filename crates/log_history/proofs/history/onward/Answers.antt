-- `onward`: each turn reads the version file behind `w`, as `Onward` says.
use mathlib.Core.Path.{subst}
use Rattle.file_bundle.proofs.Reading.{found}
use Rattle.log_files.specs.Logs.{PlaceIs}
use Rattle.std.proofs.lemmas.Result.{err_from_is_err_and}
use Rattle.log_history.proofs.Leading.{leads-up}
use Rattle.log_history.proofs.Walking.{onward-start, onward-done, onward-gap, onward-next, onward-refused}
use native.Mathlib.Omega.{arith}
use Rattle.log_history.proofs.history.onward.Goals as goal

pub loop-w-init : goal.loop-w-init
loop-w-init c = onward-start _ _ _ _ _ _ (leads-up c.requires.2.2) c.requires.1

pub shape_of-t-in_default : goal.shape_of-t-in_default
shape_of-t-in_default c = c.loop-w.invariant.carried.left.length

pub returns-in_default : goal.returns-in_default
returns-in_default c = onward-gap _ _ _ _ _ _ _ _ _ c.loop-w.invariant (omega arith) (subst (PlaceIs _ _) c.in_default.is c.version_file.ensures)

pub read_file-requires : goal.read_file-requires
read_file-requires c = (c.loop-w.invariant.carried.carries, c.in-Some.ensures.0)

pub overflow_add-place : goal.overflow_add-place
overflow_add-place c = omega (arith, (found _ _ c.in-Some.ensures.0).contents)

pub loop-w-preserved : goal.loop-w-preserved
loop-w-preserved c = onward-next _ _ _ _ _ _ _ _ _ c.loop-w.invariant (omega arith) c.in-Some.ensures.1 _ _ c.in_ok-state.ensures

pub shape_of-t : goal.shape_of-t
shape_of-t c = c.loop-w.invariant.carried.left.length

pub returns : goal.returns
returns c = onward-done _ _ _ _ _ _ _ _ _ c.loop-w.invariant (omega arith)

pub returns-in_err-state : goal.returns-in_err-state
returns-in_err-state c =
    let p = err_from_is_err_and c.from_residual.result c.from_residual.ensures.1 in
    rw (p.1, p.2) (onward-refused _ _ _ _ _ _ _ _ _ c.loop-w.invariant (omega arith) c.in-Some.ensures.1 _ _ c.in_err-state.ensures)
