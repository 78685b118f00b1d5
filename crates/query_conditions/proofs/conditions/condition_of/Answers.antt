-- `condition_of` meets its contract: string by string, as the rules ask them.
use Rattle.query_conditions.proofs.Making.{by-no-column, by-no-kind, by-no-operator, by-no-value, by-strings}
use Rattle.query_conditions.specs.Conditions.{MadeIs}
use Rattle.field_scalars.specs.Inside.{string_in}
use Rattle.rules.specs.Query.{Condition}
use Rattle.std.specs.Prelude.{Option}
use mathlib.Core.Path.{sym, subst}
use Rattle.query_conditions.proofs.conditions.condition_of.Goals as goal

pub returns-in_err-c : goal.returns-in_err-c
returns-in_err-c c =
    rw c.from_residual.ensures
    (by-no-column
    (string_in c.args.q.now c.args.column)
    (string_in c.args.q.now c.args.kind)
    (string_in c.args.q.now c.args.op)
    (string_in c.args.q.now c.args.bound)
    c.in_err-c.ensures)

pub returns-in_err-k : goal.returns-in_err-k
returns-in_err-k c =
    rw c.from_residual-in_err-k.ensures
    (by-no-kind
    (string_in c.args.q.now c.args.column)
    (string_in c.args.q.now c.args.kind)
    (string_in c.args.q.now c.args.op)
    (string_in c.args.q.now c.args.bound)
    c.in_ok-c.ensures.0.says
    c.in_err-k.ensures)

pub returns-in_err-o : goal.returns-in_err-o
returns-in_err-o c =
    rw c.from_residual-in_err-o.ensures
    (by-no-operator
    (string_in c.args.q.now c.args.column)
    (string_in c.args.q.now c.args.kind)
    (string_in c.args.q.now c.args.op)
    (string_in c.args.q.now c.args.bound)
    c.in_ok-c.ensures.0.says
    c.in_ok-k.ensures.0.says
    c.in_err-o.ensures)

pub returns-in_err-b : goal.returns-in_err-b
returns-in_err-b c =
    rw c.from_residual-in_err-b.ensures
    (by-no-value
    (string_in c.args.q.now c.args.column)
    (string_in c.args.q.now c.args.kind)
    (string_in c.args.q.now c.args.op)
    (string_in c.args.q.now c.args.bound)
    c.in_ok-c.ensures.0.says
    c.in_ok-k.ensures.0.says
    c.in_ok-o.ensures.0.says
    c.in_err-b.ensures)

pub returns : goal.returns
returns c =
    subst
    (λ (o : Option Condition). MadeIs o c.args.q.now c.condition_by.result)
    (sym (by-strings (string_in c.args.q.now c.args.column) (string_in c.args.q.now c.args.kind) (string_in c.args.q.now c.args.op)
    (string_in c.args.q.now c.args.bound) c.in_ok-c.ensures.0.says c.in_ok-k.ensures.0.says c.in_ok-o.ensures.0.says c.in_ok-b.ensures.0.says))
    c.condition_by.ensures
