-- `columns_of` meets its contract. By the brace, by the columns behind it, by what stands behind them, and by their names.
use mathlib.Core.Path.{refl, sym, ◌∙◌}
use lib.ListN.{drop}
use Rattle.rules.specs.Bytes.{firsts}
use Rattle.rules.specs.Json.Values.{contents, value as rule_value}
use Rattle.field_objects.proofs.Meeting.{contents-object}
use Rattle.field_objects.proofs.Whole.{alone-whole, alone-trailing, object-unopened, object-opened}
use Rattle.manifest_state.proofs.Tabling.{columns-none, columns-malformed, columns-twice, columns-stand}
use Rattle.manifest_state.proofs.columns.columns_of.Goals as goal

pub returns-in_err-at : goal.returns-in_err-at
returns-in_err-at c =
    rw c.from_residual.ensures
    (columns-none c.args.t.now (object-unopened 28 c.args.t.now c.skip_ws.result c.skip_ws.ensures c.in_err-at.ensures))

pub returns-in_err-end : goal.returns-in_err-end
returns-in_err-end c =
    rw c.from_residual-in_err-end.ensures
    (columns-malformed c.args.t.now
    (contents (rule_value 28) (drop c.in_ok-at.at c.args.t.now))
    (object-opened 28 c.args.t.now c.skip_ws.result c.skip_ws.ensures c.in_ok-at.ensures.0)
    c.in_err-end.ensures)

pub returns-then-skip_ws-t : goal.returns-then-skip_ws-t
returns-then-skip_ws-t c =
    let a = c.in_ok-at.ensures in
    let w = c.in_ok-end.ensures in
    columns-none c.args.t.now
    (object-opened 28 c.args.t.now c.skip_ws.result c.skip_ws.ensures a.0
    ∙ alone-trailing c.args.t.now c.in_ok-end.end c.skip_ws-2.result w.all c.skip_ws-2.ensures c.if-skip_ws-t.true)

pub distinct_names-requires : goal.distinct_names-requires
distinct_names-requires c =
    let a = c.in_ok-at.ensures in
    let w = c.in_ok-end.ensures in
    (a.2, contents-object 28 _ _ w.all)

pub returns-then-distinct_names : goal.returns-then-distinct_names
returns-then-distinct_names c =
    let a = c.in_ok-at.ensures in
    let w = c.in_ok-end.ensures in
    columns-stand c.args.t.now
    c.in_ok-at.at
    c.in_ok-end.end
    a.2
    w
    (object-opened 28 c.args.t.now c.skip_ws.result c.skip_ws.ensures a.0
    ∙ alone-whole c.args.t.now c.in_ok-end.end c.skip_ws-2.result w.all c.skip_ws-2.ensures c.if-skip_ws-t.false)
    (sym (c.distinct_names.ensures (firsts w.ms) (record { ms = w.ms; left = drop c.in_ok-end.end c.args.t.now; all = w.all; each = refl })) ∙
    c.if-distinct_names.true)

pub returns-else-distinct_names : goal.returns-else-distinct_names
returns-else-distinct_names c =
    let a = c.in_ok-at.ensures in
    let w = c.in_ok-end.ensures in
    columns-twice c.args.t.now
    c.in_ok-at.at
    c.in_ok-end.end
    a.2
    w
    (object-opened 28 c.args.t.now c.skip_ws.result c.skip_ws.ensures a.0
    ∙ alone-whole c.args.t.now c.in_ok-end.end c.skip_ws-2.result w.all c.skip_ws-2.ensures c.if-skip_ws-t.false)
    (sym (c.distinct_names.ensures (firsts w.ms) (record { ms = w.ms; left = drop c.in_ok-end.end c.args.t.now; all = w.all; each = refl })) ∙
    c.if-distinct_names.false)
