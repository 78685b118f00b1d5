-- `condition_at` meets its contract: the object is scanned once for its fields and once for the order of its names.
use Rattle.query_conditions.proofs.Placing.{read-no-brace, read-no-object, read-unordered, read-ordered}
use Rattle.query_conditions.specs.Members.{in_order}
use Rattle.field_scalars.proofs.Stated.{each-inside}
use Rattle.field_names.specs.declared.kinds.Kind.TheVariants.{Condition}
use Rattle.field_names.specs.Kinds.{names_of}
use Rattle.rules.specs.Query.{Condition as RuleCondition}
use Rattle.rules.specs.Actions.{in_action}
use Rattle.rules.specs.Bytes.{◌>>=◌}
use lib.ListN.{drop}
use Prim.Native.Nat.{◌+◌, ◌≤◌}
use Rattle.std.specs.Prelude.{Option, Some}
use mathlib.Core.Path.{sym, ap, ◌∙◌}
use native.Mathlib.Omega.{arith}
use Rattle.query_conditions.proofs.conditions.condition_at.Goals as goal

pub returns-in_err-i : goal.returns-in_err-i
returns-in_err-i c = rw c.from_residual.ensures (read-no-brace (drop c.args.at c.args.q.now) c.in_err-i.ensures)

pub returns-in_err-f : goal.returns-in_err-f
unfolding in_action
returns-in_err-f c =
    rw c.from_residual-in_err-f.ensures (read-no-object (drop c.args.at c.args.q.now) c.in_ok-i.ensures.0 c.in_err-f.ensures)

pub returns-then-not-in_order : goal.returns-then-not-in_order
unfolding in_action in_order
returns-then-not-in_order c =
    let f = c.in_ok-f.ensures in
    read-unordered
    (drop c.args.at c.args.q.now)
    c.in_ok-i.ensures.0
    f.ms
    f.all
    (sym (ap in_order f.all) ∙ sym c.in_order.ensures ∙ c.if-not-in_order.true)

pub condition_of-requires : goal.condition_of-requires
unfolding names_of
condition_of-requires c =
    let f = c.in_ok-f.ensures in
    let slots = c.in_ok-f.f.slots in (
      each-inside c.args.q.now (names_of Condition) f.ms slots 0 (omega arith) f.each,
      each-inside c.args.q.now (names_of Condition) f.ms slots 1 (omega arith) f.each,
      each-inside c.args.q.now (names_of Condition) f.ms slots 2 (omega arith) f.each,
      each-inside c.args.q.now (names_of Condition) f.ms slots 3 (omega arith) f.each,
    )

pub returns-in_err-c : goal.returns-in_err-c
unfolding in_action in_order
returns-in_err-c c =
    let f = c.in_ok-f.ensures in
    rw c.from_residual-in_err-c.ensures
    (read-ordered (drop c.args.at c.args.q.now) c.in_ok-i.ensures.0 f.ms f.all c.args.q.now c.in_ok-f.f.slots
    (sym (ap in_order f.all) ∙ sym c.in_order.ensures ∙ c.if-not-in_order.false) f.each
    ∙ ap (λ (o : Option RuleCondition). o >>= (λ x. Some (x, drop c.in_ok-f.f.end c.args.q.now))) c.in_err-c.ensures)

pub returns : goal.returns
unfolding in_action in_order
returns c =
    let f = c.in_ok-f.ensures in
    let made = c.in_ok-c.ensures in
    let low : c.args.at + 1 ≤ c.in_ok-i.i = c.in_ok-i.ensures.1 in
    let high : c.in_ok-i.i + 1 ≤ c.in_ok-f.f.end = f.from in
    record {
      sound = made.0;
      read = read-ordered (drop c.args.at c.args.q.now) c.in_ok-i.ensures.0 f.ms f.all c.args.q.now c.in_ok-f.f.slots
          (sym (ap in_order f.all) ∙ sym c.in_order.ensures ∙ c.if-not-in_order.false) f.each
          ∙ ap (λ (o : Option RuleCondition). o >>= (λ x. Some (x, drop c.in_ok-f.f.end c.args.q.now))) made.1;
      from = omega arith;
      within = f.within;
    }
