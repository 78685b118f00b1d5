-- `note_array` meets its contract. By the bracket, by the manifests behind it, and by what stands behind them.
use mathlib.Core.Path.{refl, ◌∙◌}
use lib.ListN.{drop}
use Rattle.rules.specs.Json.Values.{elements, value as rule_value}
use Rattle.field_objects.proofs.Whole.{alone-whole, alone-trailing}
use Rattle.manifests.proofs.Listing.{manifests-none, manifests-of, manifests-malformed, array-unopened, array-opened}
use Rattle.manifests.proofs.notes.note_array.Goals as goal

pub returns-in_err-at : goal.returns-in_err-at
returns-in_err-at c =
    rw c.from_residual.ensures (
      manifests-none c.args.u.now (array-unopened c.args.u.now c.skip_ws.result c.skip_ws.ensures c.in_err-at.ensures),
      record { same = refl; beyond = refl },
    )

pub returns-in_err-end : goal.returns-in_err-end
returns-in_err-end c =
    rw c.from_residual-in_err-end.ensures (
      manifests-malformed c.args.u.now (elements (rule_value 30) (drop c.in_ok-at.at c.args.u.now))
          (array-opened c.args.u.now c.skip_ws.result c.skip_ws.ensures c.in_ok-at.ensures.0) c.in_err-end.ensures.0,
      c.in_err-end.ensures.1,
    )

pub returns-then-skip_ws-u : goal.returns-then-skip_ws-u
returns-then-skip_ws-u c =
    let a = c.in_ok-at.ensures in
    let w = c.in_ok-end.ensures in (
      manifests-none c.args.u.now
          (array-opened c.args.u.now c.skip_ws.result c.skip_ws.ensures a.0
          ∙ alone-trailing c.args.u.now c.in_ok-end.end c.skip_ws-2.result w.all c.skip_ws-2.ensures c.if-skip_ws-u.true),
      w.noted.outer,
    )

pub returns : goal.returns
returns c =
    let a = c.in_ok-at.ensures in
    let w = c.in_ok-end.ensures in (
      w.ms,
      manifests-of c.args.u.now
          (array-opened c.args.u.now c.skip_ws.result c.skip_ws.ensures a.0
          ∙ alone-whole c.args.u.now c.in_ok-end.end c.skip_ws-2.result w.all c.skip_ws-2.ensures c.if-skip_ws-u.false) ∙ w.each,
      w.count,
      w.noted,
    )
