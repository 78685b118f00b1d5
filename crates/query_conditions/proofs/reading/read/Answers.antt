-- `read` meets its contract: each test of the code is one of the rules', and all else is answered alike.
use Rattle.query_conditions.proofs.Columns.{places_of, places-each, places-names, places-spelled}
use Rattle.query_conditions.proofs.Fusing.{query_behind, behind-none, behind_more, behind-apart, behind-twice, query-long, query-no-array, query-array}
use Rattle.query_conditions.specs.Reading.{no_condition, names_at, columns_of}
use Rattle.query_conditions.specs.Conditions.{condition_read}
use Rattle.json_strings.specs.Decoded.{WellSpelled}
use Rattle.json_tokens.proofs.Places.{here, ended}
use Rattle.json_tokens.specs.Answers.{Skips}
use Rattle.facts.specs.Lists.{All}
use Rattle.facts.proofs.Lists.{map-take}
use Rattle.rules.specs.Bytes.{distinct}
use Rattle.rules.specs.Query.{Condition as RuleCondition, most_query, query}
use Rattle.rules.specs.Json.Values.{list}
use Rattle.rules.specs.Json.Text.{Text, byte, ws}
use Rattle.query_conditions.specs.declared.conditions.Condition.{Condition}
use Rattle.std.proofs.Common.{tests}
use lib.ListN.{length, take, drop}
use borrow.Author.Tests.{le-leb, lt-leb}
use native.Mathlib.Omega.{arith}
use Prim.Native.Nat.{ℕ, ◌≤◌, ◌<◌}
use mathlib.Core.List.{List}
use Rattle.std.specs.Prelude.{Option, Some}
use mathlib.Core.Path.{◌≡◌, sym, ap, ◌∙◌, subst}
use borrow.Author.Rules.{rules}
use Rattle.query_conditions.proofs.reading.read.Goals as goal
use Rattle.query_conditions.proofs.reading.read.Goals.{After-map-columns}

-- ---- what is known on the way

-- the array behind a bracket
abbrev array_at : Text → ℕ → Option (List RuleCondition × Text)
array_at q at = list condition_read 0x5D (drop at q)

-- the bytes are short enough and begin with a bracket
begins : (q : Text) (w at : ℕ) → length q ≤ 4096 → Skips (ws q) q 0 w → byte 0x5B (drop w q) ≡ Some (drop at q) → query q ≡ query_behind (array_at q at)
unfolding most_query
begins q w at few skipped e = query-array q (le-leb (length q) 4096 few) (ap (byte 0x5B) skipped.left ∙ e)

-- the columns that are lent are those of the conditions
lent : (c : After-map-columns) → take c.in_ok-g.g.query.count c.map-columns.result ≡ places_of (take c.in_ok-g.g.query.count c.in_ok-g.g.query.conditions)
lent c =
    let cs = c.in_ok-g.g.query.conditions in
    let size : length cs ≡ 8 = c.in_ok-g.ensures.size in
    ap (take c.in_ok-g.g.query.count) (places-each c.map-columns.result cs (c.map-columns.ensures.items.long ∙ sym size) (λ k h.
    let few : k < 8 = omega arith in
    let called = c.map-columns.ensures.items.at k no_condition 0 few in
    search (rules, tests)))
    ∙ sym (map-take (λ (x : Condition). x.column) c.in_ok-g.g.query.count cs)

-- the test is whether the columns of the conditions differ
tested : (c : After-map-columns) (r : _) → r ≡ distinct (names_at c.args.q.now (take c.in_ok-g.g.query.count c.map-columns.result))
    → r ≡ distinct (columns_of c.args.q.now c.in_ok-g.g.query.count c.in_ok-g.g.query.conditions)
tested c r e =
    e ∙ ap (λ (ps : List ℕ). distinct (names_at c.args.q.now ps)) (lent c)
    ∙ ap distinct (places-names c.args.q.now c.in_ok-g.g.query.count c.in_ok-g.g.query.conditions)

-- ---- the needs

pub returns-then-q-gt-MOST_BYTES : goal.returns-then-q-gt-MOST_BYTES
unfolding most_query
returns-then-q-gt-MOST_BYTES c = query-long c.args.q.now (lt-leb (length c.args.q.now) 4096 c.if-q-gt-MOST_BYTES.true)

pub returns-in_err-at : goal.returns-in_err-at
unfolding most_query
returns-in_err-at c =
    rw c.from_residual.ensures
    (query-no-array c.args.q.now (le-leb (length c.args.q.now) 4096 c.if-q-gt-MOST_BYTES.false)
    (ap (byte 0x5B) c.skip_ws.ensures.left ∙ c.in_err-at.ensures))

pub returns-in_err-g : goal.returns-in_err-g
returns-in_err-g c =
    rw c.from_residual-in_err-g.ensures
    (begins c.args.q.now c.skip_ws.result c.in_ok-at.at c.if-q-gt-MOST_BYTES.false c.skip_ws.ensures c.in_ok-at.ensures.0
    ∙ behind-none (array_at c.args.q.now c.in_ok-at.at) c.in_err-g.ensures)

pub returns-then-skip_ws-q : goal.returns-then-skip_ws-q
returns-then-skip_ws-q c =
    begins c.args.q.now c.skip_ws.result c.in_ok-at.at c.if-q-gt-MOST_BYTES.false c.skip_ws.ensures c.in_ok-at.ensures.0
    ∙ behind_more (array_at c.args.q.now c.in_ok-at.at) c.in_ok-g.ensures.all
    (c.skip_ws-2.ensures.left ∙ here c.args.q.now c.skip_ws-2.result c.if-skip_ws-q.true)

pub columns_differ-requires : goal.columns_differ-requires
columns_differ-requires c =
    let a = c.in_ok-g.ensures in
    subst (All (WellSpelled c.args.q.now)) (sym (lent (goal.at.columns_differ-requires c).After-map-columns))
    (places-spelled c.args.q.now c.in_ok-g.g.query.count c.in_ok-g.g.query.conditions a.held.sounds)

pub returns-then-columns_differ : goal.returns-then-columns_differ
unfolding columns_of
returns-then-columns_differ c =
    let a = c.in_ok-g.ensures in
    record {
      held = a.held;
      says = begins c.args.q.now c.skip_ws.result c.in_ok-at.at c.if-q-gt-MOST_BYTES.false c.skip_ws.ensures c.in_ok-at.ensures.0
          ∙ behind-apart (array_at c.args.q.now c.in_ok-at.at) a.all
          (c.skip_ws-2.ensures.left ∙ ended c.args.q.now c.skip_ws-2.result c.if-skip_ws-q.false)
          (sym (tested (goal.at.returns-then-columns_differ c).After-map-columns _ c.if-columns_differ.ensures));
    }

pub returns : goal.returns
unfolding columns_of
returns c =
    let a = c.in_ok-g.ensures in
    begins c.args.q.now c.skip_ws.result c.in_ok-at.at c.if-q-gt-MOST_BYTES.false c.skip_ws.ensures c.in_ok-at.ensures.0
    ∙ behind-twice (array_at c.args.q.now c.in_ok-at.at) a.all
    (c.skip_ws-2.ensures.left ∙ ended c.args.q.now c.skip_ws-2.result c.if-skip_ws-q.false)
    (sym (tested (goal.at.returns c).After-map-columns _ c.if-columns_differ.ensures))
