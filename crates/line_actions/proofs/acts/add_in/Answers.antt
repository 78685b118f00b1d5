-- `add_in` meets its contract. Its fields, one after another.
use Prim.Native.Nat.{◌+◌, ◌≤◌}
use lib.ListN.{length}
use Rattle.field_names.specs.Kinds.{names_of}
use Rattle.line_actions.proofs.Slotted.{lined-inside, lined-proper}
use Rattle.line_actions.proofs.Assembled.{add-placed, add-no-path, add-no-size, add-no-time, add-no-change, add-no-values, add-no-records, add-there}
use native.Mathlib.Omega.{arith}
use borrow.Author.Rules.{rules}
use mathlib.Core.Path.{sym}
use Rattle.line_actions.proofs.acts.add_in.Goals as goal

pub path_in-requires : goal.path_in-requires
unfolding names_of
path_in-requires c = lined-proper c.args.s.now 0 c.requires 0 (omega arith)

pub returns-in_err-path_in : goal.returns-in_err-path_in
returns-in_err-path_in c = rw c.from_residual.ensures (add-no-path c.args.s.now c.requires c.in_err-path_in.ensures)

pub whole_in-requires : goal.whole_in-requires
unfolding names_of
whole_in-requires c = lined-inside c.args.s.now 0 c.requires 1 (omega arith)

pub returns-in_err-size : goal.returns-in_err-size
returns-in_err-size c = rw c.from_residual-in_err-size.ensures (add-no-size c.args.s.now c.requires (sym c.in_err-size.ensures))

pub whole_in-requires-2 : goal.whole_in-requires-2
unfolding names_of
whole_in-requires-2 c = lined-inside c.args.s.now 0 c.requires 2 (omega arith)

pub returns-in_err-time : goal.returns-in_err-time
returns-in_err-time c = rw c.from_residual-in_err-time.ensures (add-no-time c.args.s.now c.requires (sym c.in_err-time.ensures))

pub truth_in-requires : goal.truth_in-requires
unfolding names_of
truth_in-requires c = lined-inside c.args.s.now 0 c.requires 3 (omega arith)

pub returns-in_err-truth_in : goal.returns-in_err-truth_in
returns-in_err-truth_in c = rw c.from_residual-in_err-truth_in.ensures (add-no-change c.args.s.now c.requires (sym c.in_err-truth_in.ensures))

pub values_in-requires : goal.values_in-requires
unfolding names_of
values_in-requires c = lined-proper c.args.s.now 0 c.requires 4 (omega arith)

pub returns-in_err-values : goal.returns-in_err-values
returns-in_err-values c = rw c.from_residual-in_err-values.ensures (add-no-values c.args.s.now c.requires c.in_err-values.ensures)

pub records_in-requires : goal.records_in-requires
unfolding names_of
records_in-requires c = lined-inside c.args.s.now 0 c.requires 5 (omega arith)

pub returns-in_err-records : goal.returns-in_err-records
returns-in_err-records c = rw c.from_residual-in_err-records.ensures (add-no-records c.args.s.now c.requires (sym c.in_err-records.ensures))

pub overflow_add-result : goal.overflow_add-result
overflow_add-result c =
    let p = add-placed c.args.s.now c.requires _ c.in_ok-path_in.ensures.0.says in
    let far : c.args.path.start + 2 ≤ c.args.path.end = p.further in
    let fits : c.args.path.end ≤ length c.args.s.now = p.within in
    search rules

pub overflow_sub-result : goal.overflow_sub-result
overflow_sub-result c =
    let far : c.args.path.start + 2 ≤ c.args.path.end = (add-placed c.args.s.now c.requires _ c.in_ok-path_in.ensures.0.says).further in
    omega arith

pub returns : goal.returns
returns c =
    let vs = c.in_ok-values.ensures in
    add-there c.args.s.now c.requires _ c.in_ok-size.size c.in_ok-time.time c.in_ok-values.values c.in_ok-values.usual _ vs.0 c.in_ok-records.records
    c.in_ok-path_in.ensures.0.says (sym c.in_ok-size.ensures) (sym c.in_ok-time.ensures) (sym c.in_ok-truth_in.ensures) vs.1 vs.2 vs.3
    (sym c.in_ok-records.ensures)
