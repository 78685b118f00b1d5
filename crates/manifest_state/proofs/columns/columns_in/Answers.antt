-- `columns_in` meets its contract. The loop keeps the columns that went by and what is left; what is left gets shorter.
use mathlib.Core.Path.{◌≡◌}
use Rattle.std.specs.Prelude.{Some}
use mathlib.Core.List.{[]}
use Prim.Native.Nat.{◌+◌, ◌-◌, ◌≤◌}
use native.Mathlib.Omega.{arith}
use lib.ListN.{length, take, drop}
use Rattle.rules.specs.Manifests.{Bounds, bounds_of}
use Rattle.rules.specs.Json.Values.{member, value as rule_value}
use Rattle.rules.proofs.Json.ValueReads.{value-reads, member-reads}
use Rattle.field_names.specs.Spelled.{name_in}
use Rattle.manifest_state.proofs.Gathering.{gathered-neither, gathered-empty, gathered-start, gathered_none}
use Rattle.manifest_state.proofs.Gathering.{gathered-refused, gathered-cut, gathered-closed, gathered-more}
use Rattle.manifest_state.proofs.Bounded.{range-bounds}
use Rattle.manifest_state.proofs.Tabling.{column_of, column-some, column-none, tabled-none, tabled-listed}
use Rattle.manifest_state.proofs.columns.columns_in.Goals as goal

pub loop-v-init : goal.loop-v-init
loop-v-init c = (
  [],
  gathered-start
      (member (rule_value 28))
      0x7D column_of
      c.args.t.now
      c.args.at
      c.in-More.first
      c.in-More.ensures,
)

pub read_member-requires : goal.read_member-requires
read_member-requires c = c.loop-v.invariant.1.passed.within

pub returns-in_err-v-in-More : goal.returns-in_err-v-in-More
returns-in_err-v-in-More c =
    rw c.from_residual.ensures
    (tabled-none c.args.t.now c.args.at
    (gathered_none (member (rule_value 28)) 0x7D column_of c.args.t.now c.args.at c.loop-v.i c.loop-v.invariant.0 c.loop-v.invariant.1
    c.in_err-v-in-More.ensures))

pub returns-in_err-range_of-in-More : goal.returns-in_err-range_of-in-More
returns-in_err-range_of-in-More c =
    let m = c.in_ok-v-in-More.ensures in
    let name = name_in c.args.t.now c.in_ok-v-in-More.field-0-0 in
    let text = take (c.in_ok-v-in-More.e - c.in_ok-v-in-More.v) (drop c.in_ok-v-in-More.v c.args.t.now) in
    rw c.from_residual-in_err-range_of-in-More.ensures
    (tabled-none c.args.t.now c.args.at
    (gathered-refused (member (rule_value 28)) 0x7D column_of c.args.t.now c.args.at c.loop-v.i c.loop-v.invariant.0 c.loop-v.invariant.1
    c.in_ok-v-in-More.e (name, text) m.read (member-reads (value-reads 28)) (column-none name text c.in_err-range_of-in-More.ensures)))

pub closing-requires : goal.closing-requires
closing-requires c =
    let m = c.in_ok-v-in-More.ensures in
    m.within

pub returns-in-Neither-closing : goal.returns-in-Neither-closing
returns-in-Neither-closing c =
    let m = c.in_ok-v-in-More.ensures in
    tabled-none c.args.t.now
    c.args.at
    (gathered-cut (member (rule_value 28)) 0x7D column_of c.args.t.now c.args.at c.loop-v.i c.loop-v.invariant.0 c.loop-v.invariant.1 c.in_ok-v-in-More.e
    ((name_in c.args.t.now c.in_ok-v-in-More.field-0-0), (take (c.in_ok-v-in-More.e - c.in_ok-v-in-More.v) (drop c.in_ok-v-in-More.v c.args.t.now))) m.read
    c.in-Neither-closing.ensures)

pub returns-in-Closed-closing : goal.returns-in-Closed-closing
returns-in-Closed-closing c =
    let m = c.in_ok-v-in-More.ensures in
    let s : (b : Bounds) × (bounds_of (take (c.in_ok-v-in-More.e - c.in_ok-v-in-More.v) (drop c.in_ok-v-in-More.v c.args.t.now)) ≡ Some b) =
    range-bounds _ c.in_ok-range_of-in-More.field-0 c.in_ok-range_of-in-More.ensures in
    let f = c.in-Closed-closing.ensures in
    tabled-listed c.args.t.now
    c.args.at
    c.in-Closed-closing.end
    _
    (gathered-closed (member (rule_value 28)) 0x7D column_of c.args.t.now c.args.at c.loop-v.i c.loop-v.invariant.0 c.loop-v.invariant.1 c.in_ok-v-in-More.e
    ((name_in c.args.t.now c.in_ok-v-in-More.field-0-0), (take (c.in_ok-v-in-More.e - c.in_ok-v-in-More.v) (drop c.in_ok-v-in-More.v c.args.t.now))) m.read
    ((name_in c.args.t.now c.in_ok-v-in-More.field-0-0), s.0)
    (column-some (name_in c.args.t.now c.in_ok-v-in-More.field-0-0)
    (take (c.in_ok-v-in-More.e - c.in_ok-v-in-More.v) (drop c.in_ok-v-in-More.v c.args.t.now)) s.0 s.1)
    c.in-Closed-closing.end f)
    f.2

pub loop-v-smaller : goal.loop-v-smaller
loop-v-smaller c =
    let m = c.in_ok-v-in-More.ensures in
    let f = c.in-More-closing.ensures in
    let low : c.loop-v.i + 1 ≤ c.in_ok-v-in-More.v = m.from in
    let mid : c.in_ok-v-in-More.v ≤ c.in_ok-v-in-More.e = m.ordered in
    let high : c.in_ok-v-in-More.e + 1 ≤ c.in-More-closing.j = f.1 in
    let within : c.in-More-closing.j ≤ length c.args.t.now = f.2 in
    omega arith

pub loop-v-preserved : goal.loop-v-preserved
loop-v-preserved c =
    let m = c.in_ok-v-in-More.ensures in
    let s : (b : Bounds) × (bounds_of (take (c.in_ok-v-in-More.e - c.in_ok-v-in-More.v) (drop c.in_ok-v-in-More.v c.args.t.now)) ≡ Some b) =
    range-bounds _ c.in_ok-range_of-in-More.field-0 c.in_ok-range_of-in-More.ensures in (
      _,
      gathered-more
          (member (rule_value 28))
          0x7D column_of c.args.t.now
          c.args.at
          c.loop-v.i
          c.loop-v.invariant.0
          c.loop-v.invariant.1
          c.in_ok-v-in-More.e
          ((name_in c.args.t.now c.in_ok-v-in-More.field-0-0), (take (c.in_ok-v-in-More.e - c.in_ok-v-in-More.v) (drop c.in_ok-v-in-More.v c.args.t.now)))
          m.read
          ((name_in c.args.t.now c.in_ok-v-in-More.field-0-0), s.0)
          (column-some (name_in c.args.t.now c.in_ok-v-in-More.field-0-0)
          (take (c.in_ok-v-in-More.e - c.in_ok-v-in-More.v) (drop c.in_ok-v-in-More.v c.args.t.now)) s.0 s.1)
          (member-reads (value-reads 28))
          c.in-More-closing.j
          c.in-More-closing.ensures,
    )

pub returns-in-Neither : goal.returns-in-Neither
returns-in-Neither c =
    tabled-none
    c.args.t.now
    c.args.at
    (gathered-neither (member (rule_value 28)) 0x7D column_of c.args.t.now c.args.at
    c.in-Neither.ensures)

pub returns-in-Closed : goal.returns-in-Closed
returns-in-Closed c =
    let f = c.in-Closed.ensures in
    tabled-listed c.args.t.now c.args.at c.in-Closed.end [] (gathered-empty (member (rule_value 28)) 0x7D column_of c.args.t.now c.args.at c.in-Closed.end f)
    f.2
