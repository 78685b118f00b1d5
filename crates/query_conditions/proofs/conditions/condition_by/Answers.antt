-- `condition_by` meets its contract: word by word, as the rules ask them.
use Rattle.query_conditions.proofs.Making.{kind-said, kind-unsaid, operator-said, operator-unsaid, fit-fits}
use Rattle.query_conditions.proofs.Making.{fit-unfits, from-no-kind, from-no-operator, from-unfit, from-words}
use Rattle.query_conditions.specs.Words.{as_is}
use Rattle.json_strings.specs.Decoded.{decoded}
use Rattle.rules.specs.Query.{as_of, op_of}
use lib.ListN.{drop}
use Rattle.query_conditions.proofs.conditions.condition_by.Goals as goal

pub returns-in_err-k : goal.returns-in_err-k
returns-in_err-k c =
    rw c.from_residual.ensures
    (from-no-kind
    (decoded (drop c.args.column c.args.q.now))
    (decoded (drop c.args.kind c.args.q.now))
    (decoded (drop c.args.op c.args.q.now))
    (decoded (drop c.args.bound c.args.q.now))
    (kind-unsaid (as_of (decoded (drop c.args.kind c.args.q.now))) c.in_err-k.ensures))

pub returns-in_err-o : goal.returns-in_err-o
returns-in_err-o c =
    rw c.from_residual-in_err-o.ensures
    (from-no-operator
    (decoded (drop c.args.column c.args.q.now))
    (decoded (drop c.args.kind c.args.q.now))
    (decoded (drop c.args.op c.args.q.now))
    (decoded (drop c.args.bound c.args.q.now))
    (kind-said (as_of (decoded (drop c.args.kind c.args.q.now))) c.in_ok-k.ensures)
    (operator-unsaid (op_of (decoded (drop c.args.op c.args.q.now))) c.in_err-o.ensures))

pub returns-in_err-number : goal.returns-in_err-number
returns-in_err-number c =
    rw c.from_residual-in_err-number.ensures
    (from-unfit
    (decoded (drop c.args.column c.args.q.now))
    (decoded (drop c.args.kind c.args.q.now))
    (decoded (drop c.args.op c.args.q.now))
    (decoded (drop c.args.bound c.args.q.now))
    (kind-said (as_of (decoded (drop c.args.kind c.args.q.now))) c.in_ok-k.ensures)
    (operator-said (op_of (decoded (drop c.args.op c.args.q.now))) c.in_ok-o.ensures)
    (fit-unfits (as_is c.in_ok-k.k) (decoded (drop c.args.bound c.args.q.now)) c.in_err-number.ensures))

pub returns : goal.returns
returns c = (
  record { column = c.requires.0; bound = c.requires.3; number = c.in_ok-number.ensures },
  from-words
      (decoded (drop c.args.column c.args.q.now))
      (decoded (drop c.args.kind c.args.q.now))
      (decoded (drop c.args.op c.args.q.now))
      (decoded (drop c.args.bound c.args.q.now))
      (kind-said (as_of (decoded (drop c.args.kind c.args.q.now))) c.in_ok-k.ensures)
      (operator-said (op_of (decoded (drop c.args.op c.args.q.now))) c.in_ok-o.ensures)
      (fit-fits (as_is c.in_ok-k.k) (decoded (drop c.args.bound c.args.q.now)) c.in_ok-number.ensures),
)
