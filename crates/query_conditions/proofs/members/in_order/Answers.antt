-- `in_order` meets its contract. The loop keeps the members that went by, by their number and by which name was met first.
use Rattle.query_conditions.proofs.Naming.{past, went-unopened, went-start, went-none, went-neither, went-closed, went-more}
use Rattle.json_values.proofs.Names.{member-nameless, member-named}
use Rattle.rules.proofs.Json.Shadows.{behind-none}
use Rattle.rules.specs.Json.Values.{member, value as rule_value}
use lib.ListN.{length, drop}
use Prim.Native.Nat.{◌+◌, ◌≤◌}
use native.Mathlib.Omega.{arith}
use Rattle.query_conditions.proofs.members.in_order.Goals as goal

pub returns-in_default : goal.returns-in_default
returns-in_default c =
    went-unopened c.args.depth c.args.s.now c.args.at c.opening.result c.opening.ensures c.in_default.not-More

pub loop-v-init : goal.loop-v-init
loop-v-init c = (
  omega arith,
  went-start
      c.args.depth
      c.args.s.now
      c.args.at
      c.in-More.start
      c.in-More.ensures,
)

pub returns-in_default-skip_name : goal.returns-in_default-skip_name
returns-in_default-skip_name c =
    went-none
    c.args.depth
    c.args.s.now
    c.args.at
    c.loop-v.i
    c.loop-v.n
    c.loop-v.first
    c.loop-v.invariant.1
    (behind-none (member (rule_value c.args.depth) (drop c.loop-v.i c.args.s.now))
    (member-nameless (rule_value c.args.depth) (drop c.loop-v.i c.args.s.now) c.in_default-skip_name.ensures))

pub returns-in_default-value : goal.returns-in_default-value
returns-in_default-value c =
    went-none
    c.args.depth
    c.args.s.now
    c.args.at
    c.loop-v.i
    c.loop-v.n
    c.loop-v.first
    c.loop-v.invariant.1
    (behind-none (member (rule_value c.args.depth) (drop c.loop-v.i c.args.s.now))
    (member-named (rule_value c.args.depth) (drop c.loop-v.i c.args.s.now)
    c.in-Some.ensures.0
    c.in_default-value.ensures))

pub met_then-next-requires : goal.met_then-next-requires
met_then-next-requires c =
    (past (rule_value c.args.depth) c.args.s.now c.loop-v.i c.in-Some.v c.in-Some-value.e
    c.in-Some.ensures.0
    c.in-Some-value.ensures.0).named

pub returns-in-Neither : goal.returns-in-Neither
returns-in-Neither c =
    went-neither
    c.args.depth
    c.args.s.now
    c.args.at
    c.loop-v.i
    c.loop-v.n
    c.loop-v.first
    c.loop-v.invariant.1
    c.in-Some-value.e
    (past (rule_value c.args.depth) c.args.s.now c.loop-v.i c.in-Some.v c.in-Some-value.e c.in-Some.ensures.0
    c.in-Some-value.ensures.0)
    c.in-Neither.ensures

pub returns-in-Closed : goal.returns-in-Closed
returns-in-Closed c =
    went-closed
    c.args.depth
    c.args.s.now
    c.args.at
    c.loop-v.i
    c.loop-v.n
    c.loop-v.first
    c.loop-v.invariant.1
    c.in-Some-value.e
    (past (rule_value c.args.depth) c.args.s.now c.loop-v.i c.in-Some.v c.in-Some-value.e c.in-Some.ensures.0
    c.in-Some-value.ensures.0)
    c.met_then-next.result
    c.met_then-next.ensures
    c.in-Closed.ensures
    c.four_in_order.result
    c.four_in_order.ensures

pub loop-v-preserved : goal.loop-v-preserved
loop-v-preserved c =
    let a = c.in-Some.ensures in
    let low : c.loop-v.i + 1 ≤ c.in-Some.v = a.1 in
    let high : c.in-Some.v ≤ length c.args.s.now = a.2 in
    let few : c.loop-v.n ≤ c.loop-v.i = c.loop-v.invariant.0 in
    let b = c.in-Some-value.ensures in
    let next : c.in-Some.v + 1 ≤ c.in-Some-value.e = b.1 in
    let f = c.in-More-closing.ensures in
    let after : c.in-Some-value.e + 1 ≤ c.in-More-closing.j = f.1 in
    let within : c.in-More-closing.j ≤ length c.args.s.now = f.2 in (
      omega arith,
      went-more
          c.args.depth
          c.args.s.now
          c.args.at
          c.loop-v.i
          c.loop-v.n
          c.loop-v.first
          c.loop-v.invariant.1
          c.in-Some-value.e
          (past (rule_value c.args.depth) c.args.s.now c.loop-v.i c.in-Some.v c.in-Some-value.e c.in-Some.ensures.0
          c.in-Some-value.ensures.0)
          c.met_then-next.result
          c.met_then-next.ensures
          c.in-More-closing.j
          f,
    )
