-- `state_at`: by version file 0, by the start that reaches the version, and by what is read of the way, as `Reaching` says.
use mathlib.Core.Path.{◌≡◌, subst}
use native.Mathlib.Omega.{arith}
use Rattle.std.proofs.Common.{None, Some}
use Rattle.std.proofs.lemmas.Result.{err_from_is_err_and}
use Rattle.log_files.specs.Logs.{PlaceIs}
use Rattle.log_starts.specs.Ways.{StartIs}
use Rattle.refusals.specs.declared.Refusal.TheVariants.{NoVersionZero, NotKept}
use Rattle.log_history.proofs.Reaching.{reaches, state-unbegun, state-unreached, state-read}
use Rattle.log_history.proofs.history.state_at.Goals as goal

pub returns-in_err-zero : goal.returns-in_err-zero
returns-in_err-zero c =
    let p = err_from_is_err_and c.from_residual.result c.from_residual.ensures.1 in
    let none : c.version_file.result ≡ None = grind arith in
    let same : c.in_err-zero.field-0.0 ≡ NoVersionZero = grind arith in
    rw (p.1, p.2, same) (state-unbegun _ _ _ (subst (PlaceIs _ _) none c.version_file.ensures))

pub returns-in_err-start : goal.returns-in_err-start
returns-in_err-start c =
    let p = err_from_is_err_and c.from_residual-in_err-start.result c.from_residual-in_err-start.ensures.1 in
    let zero : c.version_file.result ≡ Some c.in_ok-zero.zero = grind arith in
    let none : c.start_for.result ≡ None = grind arith in
    let same : c.in_err-start.field-0.0 ≡ NotKept = grind arith in
    rw (p.1, p.2, same)
    (state-unreached _ _ _ (subst (PlaceIs _ _) zero c.version_file.ensures).1 (subst (StartIs _ _ _) none c.start_for.ensures))

pub from_zero-requires : goal.from_zero-requires
from_zero-requires c =
    let zero : c.version_file.result ≡ Some c.in_ok-zero.zero = grind arith in
    let start : c.start_for.result ≡ Some c.in_ok-start.start = grind arith in
    let p = subst (PlaceIs _ _) zero c.version_file.ensures in
    let q = reaches _ _ _ c.in_ok-start.start (subst (StartIs _ _ _) start c.start_for.ensures) in
    (c.requires.0, c.requires.1, p.0, (q.0, q.2))

pub returns : goal.returns
returns c =
    let zero : c.version_file.result ≡ Some c.in_ok-zero.zero = grind arith in
    let start : c.start_for.result ≡ Some c.in_ok-start.start = grind arith in
    let p = subst (PlaceIs _ _) zero c.version_file.ensures in
    let q = reaches _ _ _ c.in_ok-start.start (subst (StartIs _ _ _) start c.start_for.ensures) in
    state-read _ _ c.args.t.now p.1 _ _ _ q c.from_zero.ensures
