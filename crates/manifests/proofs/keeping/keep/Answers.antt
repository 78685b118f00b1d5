-- `keep` meets its contract. By the room, the query, the state manifest and the number of its manifests, in the paper's order.
use mathlib.Core.Path.{refl, ◌∙◌}
use Prim.Native.Nat.{◌≤◌, ◌<◌}
use native.Mathlib.Omega.{arith}
use lib.ListN.{length}
use Rattle.query_conditions.specs.Reading.{conditions_of}
use Rattle.refusals.specs.Numbered.{numbered}
use Rattle.refusals.specs.declared.Refusal.TheVariants.{QueryMalformed, StateMalformed, TooManyManifests}
use Rattle.manifests.proofs.Answering.{keeping-query, keeping-state, keeping-many, keeping-kept}
use Rattle.manifests.proofs.Answering.{keep-short, keep-refused, keep-kept}
use Rattle.manifests.proofs.keeping.keep.Goals as goal

pub returns-then-kept-lt-KEPT_ROOM : goal.returns-then-kept-lt-KEPT_ROOM
returns-then-kept-lt-KEPT_ROOM c =
    keep-short c.args.state.now c.args.q.now c.args.kept.now _ c.if-kept-lt-KEPT_ROOM.true refl

pub returns-in_default : goal.returns-in_default
unfolding numbered
returns-in_default c =
    keep-refused
    c.args.state.now
    c.args.q.now c.args.kept.now _
    c.if-kept-lt-KEPT_ROOM.false
    c.args.kept.now
    (record { same = refl; beyond = refl })
    QueryMalformed
    c.refuse.result
    (keeping-query (length c.args.kept.now) c.args.state.now c.args.q.now c.if-kept-lt-KEPT_ROOM.false c.in_default.ensures)
    (λ n. omega arith)
    c.refuse.ensures.0
    c.refuse.ensures.1

pub returns-in_default-array_in : goal.returns-in_default-array_in
unfolding numbered
returns-in_default-array_in c =
    let asked = c.in-Some.ensures in
    keep-refused
    c.args.state.now
    c.args.q.now c.args.kept.now _
    c.if-kept-lt-KEPT_ROOM.false
    c.args.kept.now
    (record { same = refl; beyond = refl })
    StateMalformed
    c.refuse-in_default-array_in.result
    (keeping-state (length c.args.kept.now) c.args.state.now c.args.q.now c.if-kept-lt-KEPT_ROOM.false
    (conditions_of c.args.q.now c.in-Some.asked.count c.in-Some.asked.conditions) asked.says
    c.in_default-array_in.ensures)
    (λ n. omega arith)
    c.refuse-in_default-array_in.ensures.0
    c.refuse-in_default-array_in.ensures.1

pub returns-in_default-note_array : goal.returns-in_default-note_array
unfolding numbered
returns-in_default-note_array c =
    let asked = c.in-Some.ensures in
    let a = c.in-Some-array_in.ensures in
    let w = c.in_default-note_array.ensures in
    keep-refused
    c.args.state.now
    c.args.q.now
    c.args.kept.now
    _
    c.if-kept-lt-KEPT_ROOM.false
    _
    w.1
    StateMalformed
    c.refuse-in_default-note_array.result
    (keeping-state (length c.args.kept.now) c.args.state.now c.args.q.now c.if-kept-lt-KEPT_ROOM.false
    (conditions_of c.args.q.now c.in-Some.asked.count c.in-Some.asked.conditions)
    asked.says (a.0 ∙ w.0))
    (λ n. omega arith)
    c.refuse-in_default-note_array.ensures.0
    c.refuse-in_default-note_array.ensures.1

pub returns-then-k-gt-MOST_MANIFESTS : goal.returns-then-k-gt-MOST_MANIFESTS
unfolding numbered
returns-then-k-gt-MOST_MANIFESTS c =
    let asked = c.in-Some.ensures in
    let a = c.in-Some-array_in.ensures in
    let w = c.in-Some-note_array.ensures in
    let many : 256 < length w.0 = omega (arith, w.2, c.if-k-gt-MOST_MANIFESTS.true) in
    keep-refused
    c.args.state.now
    c.args.q.now
    c.args.kept.now
    _
    c.if-kept-lt-KEPT_ROOM.false
    _
    w.3.outer
    TooManyManifests
    c.refuse-then-k-gt-MOST_MANIFESTS.result
    (keeping-many (length c.args.kept.now) c.args.state.now c.args.q.now c.if-kept-lt-KEPT_ROOM.false
    (conditions_of c.args.q.now c.in-Some.asked.count c.in-Some.asked.conditions)
    asked.says w.0 (a.0 ∙ w.1) many)
    (λ n. omega arith)
    c.refuse-then-k-gt-MOST_MANIFESTS.ensures.0
    c.refuse-then-k-gt-MOST_MANIFESTS.ensures.1

pub returns : goal.returns
returns c =
    let asked = c.in-Some.ensures in
    let a = c.in-Some-array_in.ensures in
    let w = c.in-Some-note_array.ensures in
    let few : length w.0 ≤ 256 = omega (arith, w.2, c.if-k-gt-MOST_MANIFESTS.false) in
    keep-kept
    c.args.state.now
    c.args.q.now
    c.args.kept.now
    _
    c.if-kept-lt-KEPT_ROOM.false
    _
    w.3.outer
    (conditions_of c.args.q.now c.in-Some.asked.count c.in-Some.asked.conditions)
    w.0
    _
    w.3
    few
    (keeping-kept (length c.args.kept.now) c.args.state.now c.args.q.now c.if-kept-lt-KEPT_ROOM.false
    (conditions_of c.args.q.now c.in-Some.asked.count c.in-Some.asked.conditions)
    asked.says w.0 (a.0 ∙ w.1) few)
    c.zero_u32.ensures
