-- `object_at` meets its contract. One scan of the object in its place, and the end of the line.
use mathlib.Core.Path.{sym, subst, ◌∙◌}
use Prim.Native.Nat.{◌+◌, ◌≤◌}
use lib.ListN.{drop}
use Rattle.rules.specs.Actions.{in_action}
use Rattle.rules.specs.Json.Values.{contents, value}
use Rattle.field_names.specs.Kinds.{names_of}
use Rattle.field_objects.specs.Slots.{Filled}
use Rattle.field_names.specs.declared.kinds.Kind.{Kind}
use Rattle.line_actions.proofs.Lines.{begun-no-object, begun-contents, begun-no-value, begun-unended, begun-lined}
use native.Mathlib.Omega.{arith}
use Rattle.line_actions.proofs.line.object_at.Goals as goal

pub returns-in_err-i : goal.returns-in_err-i
returns-in_err-i c = rw c.from_residual.ensures (begun-no-object c.args.line.now c.args.k c.args.v c.requires.1 c.requires.0 c.in_err-i.ensures)

pub returns-in_err-f : goal.returns-in_err-f
unfolding in_action
returns-in_err-f c =
    let q = c.in_ok-i.ensures in
    rw c.from_residual-in_err-f.ensures
    (begun-no-value c.args.line.now c.args.k c.args.v c.requires.1
    (begun-contents c.args.line.now c.args.k c.args.v c.requires.1 c.in_ok-i.i q.2 q.0 c.in_err-f.ensures))

pub action_in-requires : goal.action_in-requires
unfolding in_action
action_in-requires c =
    let q = c.in_ok-i.ensures in (
      c.requires.0,
      begun-lined c.args.line.now c.args.k c.args.v c.requires.1 c.in_ok-i.i q.2 q.0 c.in_ok-f.f
          (subst
          (λ (kind : Kind). Filled (contents (value in_action) (drop c.in_ok-i.i c.args.line.now)) c.args.line.now c.in_ok-i.i (names_of kind)
          c.in_ok-f.f.end c.in_ok-f.f.slots)
          c.kind_at-kind.ensures c.in_ok-f.ensures)
          (sym c.line_ends.ensures ∙ c.if-line_ends.true),
    )

pub returns : goal.returns
unfolding in_action
returns c =
    let q = c.in_ok-i.ensures in
    let r = c.in_ok-f.ensures in
    let l : c.args.v + 1 ≤ c.in_ok-i.i = q.1 in
    let m : c.in_ok-i.i + 1 ≤ c.in_ok-f.f.end = r.from in
    begun-unended c.args.line.now c.args.k c.args.v c.requires.1 c.in_ok-f.f.end (omega arith) r.within
    (begun-contents c.args.line.now c.args.k c.args.v c.requires.1 c.in_ok-i.i q.2 q.0 r.all) (sym c.line_ends.ensures ∙ c.if-line_ends.false)
