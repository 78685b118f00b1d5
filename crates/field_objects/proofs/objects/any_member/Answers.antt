-- `any_member` meets its contract. A name, a colon and a value, each from where the one before ends.
use lib.ListN.{drop}
use Rattle.rules.specs.Json.Values.{value as rule_value}
use Rattle.field_names.proofs.Quoting.{named-string}
use Rattle.field_objects.proofs.Members.{member-nameless, member-no-colon, member-no-value, member-stands}
use Rattle.field_objects.proofs.objects.any_member.Goals as goal

pub returns-in_err-n : goal.returns-in_err-n
returns-in_err-n c =
    rw c.from_residual.ensures (member-nameless (rule_value c.args.depth) (drop c.args.at c.args.s.now) c.in_err-n.ensures)

pub skip_colon-requires : goal.skip_colon-requires
skip_colon-requires c = c.in_ok-n.ensures.named.within

pub returns-in_err-v : goal.returns-in_err-v
returns-in_err-v c =
    let q = c.in_ok-n.ensures in
    rw c.from_residual-in_err-v.ensures
    (member-no-colon (rule_value c.args.depth) (drop c.args.at c.args.s.now) q.quote (named-string c.args.s.now c.in_ok-n.n q.named) c.in_err-v.ensures)

pub value-requires : goal.value-requires
value-requires c = c.in_ok-v.ensures.2

pub returns-in_err-e : goal.returns-in_err-e
returns-in_err-e c =
    let q = c.in_ok-n.ensures in
    rw c.from_residual-in_err-e.ensures
    (member-no-value (rule_value c.args.depth) (drop c.args.at c.args.s.now) q.quote (named-string c.args.s.now c.in_ok-n.n q.named) c.in_ok-v.ensures.0
    c.in_err-e.ensures)

pub returns : goal.returns
returns c =
    let colon = c.in_ok-v.ensures in
    let read = c.in_ok-e.ensures in
    member-stands
    (rule_value c.args.depth)
    c.args.s.now
    c.args.at
    c.in_ok-n.n
    c.in_ok-v.v
    c.in_ok-e.e
    c.in_ok-n.ensures
    colon.1
    read.1
    read.2
    colon.0
    read.0
