-- `scan` meets its contract. The loop keeps the members that went by in the slots, and what is left; what is left gets shorter.
use Prim.Native.Nat.{◌+◌, ◌≤◌}
use native.Mathlib.Omega.{arith}
use lib.ListN.{length, drop}
use Rattle.rules.specs.Json.Values.{value as rule_value}
use Rattle.rules.proofs.Json.ValueReads.{value-reads}
use Rattle.field_names.specs.Spelled.{name_in}
use Rattle.field_names.proofs.Quoting.{named-string}
use Rattle.field_names.proofs.Naming.{place-few}
use Rattle.field_objects.proofs.Members.{member-nameless, member-no-colon, member-no-value, member-stands}
use Rattle.field_objects.proofs.Scanning.{opened-neither, opened-closed, going_start}
use Rattle.field_objects.proofs.Scanning.{going-none, going-neither, going-closed, going_more}
use Rattle.field_objects.proofs.objects.scan.Goals as goal

pub returns-in-Neither : goal.returns-in-Neither
returns-in-Neither c = opened-neither (rule_value c.args.depth) c.args.s.now c.args.at c.args.kind c.in-Neither.ensures

pub returns-in-Closed : goal.returns-in-Closed
returns-in-Closed c =
    opened-closed
    (rule_value c.args.depth)
    c.args.s.now
    c.args.at
    c.args.kind
    (value-reads c.args.depth)
    c.requires
    c.in-Closed.end
    c.in-Closed.ensures

pub loop-n-init : goal.loop-n-init
loop-n-init c =
    going_start
    (rule_value c.args.depth)
    c.args.s.now
    c.args.at
    c.args.kind
    c.in-More.first
    c.in-More.ensures

pub read_known-requires : goal.read_known-requires
read_known-requires c = c.loop-n.invariant.passed.within

pub returns-in_err-n-in-More : goal.returns-in_err-n-in-More
returns-in_err-n-in-More c =
    rw c.from_residual.ensures
    (going-none (rule_value c.args.depth) c.args.s.now c.args.at c.args.kind c.loop-n.slots c.loop-n.i c.loop-n.invariant
    (member-nameless (rule_value c.args.depth) (drop c.loop-n.i c.args.s.now) c.in_err-n-in-More.ensures))

pub skip_colon-requires : goal.skip_colon-requires
skip_colon-requires c = c.in_ok-n-in-More.ensures.0.named.within

pub returns-in_err-v-in-More : goal.returns-in_err-v-in-More
returns-in_err-v-in-More c =
    let known = c.in_ok-n-in-More.ensures in
    rw c.from_residual-in_err-v-in-More.ensures
    (going-none (rule_value c.args.depth) c.args.s.now c.args.at c.args.kind c.loop-n.slots c.loop-n.i c.loop-n.invariant
    (member-no-colon (rule_value c.args.depth) (drop c.loop-n.i c.args.s.now) known.0.quote (named-string c.args.s.now c.in_ok-n-in-More.n known.0.named)
    c.in_err-v-in-More.ensures))

pub value-requires : goal.value-requires
value-requires c = c.in_ok-v-in-More.ensures.2

pub returns-in_err-e-in-More : goal.returns-in_err-e-in-More
returns-in_err-e-in-More c =
    let known = c.in_ok-n-in-More.ensures in
    let colon = c.in_ok-v-in-More.ensures in
    rw c.from_residual-in_err-e-in-More.ensures
    (going-none (rule_value c.args.depth) c.args.s.now c.args.at c.args.kind c.loop-n.slots c.loop-n.i c.loop-n.invariant
    (member-no-value (rule_value c.args.depth) (drop c.loop-n.i c.args.s.now) known.0.quote (named-string c.args.s.now c.in_ok-n-in-More.n known.0.named)
    colon.0 c.in_err-e-in-More.ensures))

pub offset_bounds-slots-k : goal.offset_bounds-slots-k
offset_bounds-slots-k c =
    omega (arith, c.in_ok-n-in-More.ensures.1, place-few c.args.kind (name_in c.args.s.now c.in_ok-n-in-More.n))

pub bounds-slots-k : goal.bounds-slots-k
bounds-slots-k c =
    omega (arith, c.in_ok-n-in-More.ensures.1, place-few c.args.kind (name_in c.args.s.now c.in_ok-n-in-More.n))

pub offset_bounds-slots-k-in-loop-n : goal.offset_bounds-slots-k-in-loop-n
offset_bounds-slots-k-in-loop-n c =
    omega (arith, c.in_ok-n-in-More.ensures.1, place-few c.args.kind (name_in c.args.s.now c.in_ok-n-in-More.n))

pub bounds-slots-k-in-loop-n : goal.bounds-slots-k-in-loop-n
bounds-slots-k-in-loop-n c =
    omega (arith, c.in_ok-n-in-More.ensures.1, place-few c.args.kind (name_in c.args.s.now c.in_ok-n-in-More.n))

pub closing-requires : goal.closing-requires
closing-requires c = c.in_ok-e-in-More.ensures.2

pub returns-in-Neither-closing : goal.returns-in-Neither-closing
returns-in-Neither-closing c =
    let known = c.in_ok-n-in-More.ensures in
    let colon = c.in_ok-v-in-More.ensures in
    let read = c.in_ok-e-in-More.ensures in
    let m = member-stands (rule_value c.args.depth) c.args.s.now c.loop-n.i c.in_ok-n-in-More.n c.in_ok-v-in-More.v c.in_ok-e-in-More.e known.0 colon.1 read.1
    read.2 colon.0 read.0 in
    going-neither
    (rule_value c.args.depth)
    c.args.s.now
    c.args.at
    c.args.kind
    c.loop-n.slots
    c.loop-n.i
    c.loop-n.invariant
    c.in_ok-n-in-More.n
    c.in_ok-v-in-More.v
    c.in_ok-e-in-More.e
    m
    c.in-Neither-closing.ensures

pub returns-in-Closed-closing : goal.returns-in-Closed-closing
returns-in-Closed-closing c =
    let known = c.in_ok-n-in-More.ensures in
    let colon = c.in_ok-v-in-More.ensures in
    let read = c.in_ok-e-in-More.ensures in
    let m = member-stands (rule_value c.args.depth) c.args.s.now c.loop-n.i c.in_ok-n-in-More.n c.in_ok-v-in-More.v c.in_ok-e-in-More.e known.0 colon.1 read.1
    read.2 colon.0 read.0 in
    going-closed
    (rule_value c.args.depth)
    c.args.s.now
    c.args.at
    c.args.kind
    c.loop-n.slots
    c.loop-n.i
    c.loop-n.invariant
    c.in_ok-n-in-More.n
    c.in_ok-v-in-More.v
    c.in_ok-e-in-More.e
    m
    c.noted.result
    c.in_ok-n-in-More.k
    c.names_in-names.result
    known.1
    c.names_in-names.ensures
    c.noted.ensures
    (value-reads c.args.depth)
    c.requires
    c.in-Closed-closing.end
    c.in-Closed-closing.ensures

pub loop-n-smaller : goal.loop-n-smaller
loop-n-smaller c =
    let known = c.in_ok-n-in-More.ensures in
    let colon = c.in_ok-v-in-More.ensures in
    let read = c.in_ok-e-in-More.ensures in
    let m = member-stands (rule_value c.args.depth) c.args.s.now c.loop-n.i c.in_ok-n-in-More.n c.in_ok-v-in-More.v c.in_ok-e-in-More.e known.0 colon.1 read.1
    read.2 colon.0 read.0 in
    let f = c.in-More-closing.ensures in
    let low : c.loop-n.i + 1 ≤ c.in_ok-v-in-More.v = m.from in
    let mid : c.in_ok-v-in-More.v ≤ c.in_ok-e-in-More.e = m.ordered in
    let high : c.in_ok-e-in-More.e + 1 ≤ c.in-More-closing.j = f.1 in
    let within : c.in-More-closing.j ≤ length c.args.s.now = f.2 in
    omega arith

pub loop-n-preserved : goal.loop-n-preserved
loop-n-preserved c =
    let known = c.in_ok-n-in-More.ensures in
    let colon = c.in_ok-v-in-More.ensures in
    let read = c.in_ok-e-in-More.ensures in
    let m = member-stands (rule_value c.args.depth) c.args.s.now c.loop-n.i c.in_ok-n-in-More.n c.in_ok-v-in-More.v c.in_ok-e-in-More.e known.0 colon.1 read.1
    read.2 colon.0 read.0 in
    going_more
    (rule_value c.args.depth)
    c.args.s.now
    c.args.at
    c.args.kind
    c.loop-n.slots
    c.loop-n.i
    c.loop-n.invariant
    c.in_ok-n-in-More.n
    c.in_ok-v-in-More.v
    c.in_ok-e-in-More.e
    m
    c.noted.result
    c.in_ok-n-in-More.k
    c.names_in-names.result
    known.1
    c.names_in-names.ensures
    c.noted.ensures
    (value-reads c.args.depth)
    c.in-More-closing.j
    c.in-More-closing.ensures
