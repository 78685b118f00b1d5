-- `conditions_in` meets its contract. The loop holds the conditions that went by, and what is left gets shorter.
use Rattle.query_conditions.proofs.Gathering.{Going, opened-neither, opened-closed, going_start, going-none}
use Rattle.query_conditions.proofs.Gathering.{going-full, going-neither, going-closed, going_more}
use Rattle.query_conditions.specs.declared.conditions.Condition.{Condition}
use Rattle.query_conditions.specs.Reading.{few_of, Array}
use Rattle.query_conditions.specs.Conditions.{condition_read}
use Rattle.rules.specs.Json.Values.{list}
use lib.ListN.{drop, replicate}
use Prim.Native.Nat.{◌≤◌, ◌<◌}
use mathlib.Core.Path.{sym, subst}
use native.Mathlib.Omega.{arith}
use Rattle.query_conditions.proofs.reading.conditions_in.Goals as goal

pub returns-in-Neither : goal.returns-in-Neither
returns-in-Neither c = opened-neither c.args.q.now c.args.at c.in-Neither.ensures

pub returns-in-Closed : goal.returns-in-Closed
returns-in-Closed c =
    subst
    (λ (x : Condition). Array (few_of (list condition_read 0x5D (drop c.args.at c.args.q.now))) c.args.q.now c.in-Closed.end 0 (replicate 8 x))
    (sym c.no_condition-blank.ensures)
    (opened-closed c.args.q.now c.args.at c.in-Closed.end c.in-Closed.ensures)

pub loop-n-init : goal.loop-n-init
loop-n-init c =
    subst
    (λ (x : Condition). Going c.args.q.now c.args.at c.in-More.first 0 (replicate 8 x))
    (sym c.no_condition-blank.ensures)
    (going_start c.args.q.now c.args.at c.in-More.first c.in-More.ensures)

pub returns-then-n-eq-MOST_CONDITIONS : goal.returns-then-n-eq-MOST_CONDITIONS
returns-then-n-eq-MOST_CONDITIONS c =
    going-full c.args.q.now c.args.at c.loop-n.i c.loop-n.n c.loop-n.conditions c.loop-n.invariant c.if-n-eq-MOST_CONDITIONS.true

pub returns-in_err-c-in-More : goal.returns-in_err-c-in-More
returns-in_err-c-in-More c =
    rw c.from_residual.ensures
    (going-none c.args.q.now c.args.at c.loop-n.i c.loop-n.n c.loop-n.conditions c.loop-n.invariant c.in_err-c-in-More.ensures)

pub returns-in-Neither-closing : goal.returns-in-Neither-closing
returns-in-Neither-closing c =
    going-neither c.args.q.now c.args.at c.loop-n.i c.loop-n.n c.loop-n.conditions c.loop-n.invariant c.in_ok-c-in-More.c c.in_ok-c-in-More.e
    c.in_ok-c-in-More.ensures c.in-Neither-closing.ensures

pub returns-in-Closed-closing : goal.returns-in-Closed-closing
returns-in-Closed-closing c =
    let few : c.loop-n.n ≤ 8 = c.loop-n.invariant.held.sounds.few in
    let room : c.loop-n.n < 8 = omega arith in
    going-closed
    c.args.q.now
    c.args.at
    c.loop-n.i
    c.loop-n.n
    c.loop-n.conditions
    c.loop-n.invariant
    c.in_ok-c-in-More.c
    c.in_ok-c-in-More.e
    c.in_ok-c-in-More.ensures
    room
    c.in-Closed-closing.end
    c.in-Closed-closing.ensures

pub loop-n-preserved : goal.loop-n-preserved
loop-n-preserved c =
    let few : c.loop-n.n ≤ 8 = c.loop-n.invariant.held.sounds.few in
    let room : c.loop-n.n < 8 = omega arith in
    going_more
    c.args.q.now
    c.args.at
    c.loop-n.i
    c.loop-n.n
    c.loop-n.conditions
    c.loop-n.invariant
    c.in_ok-c-in-More.c
    c.in_ok-c-in-More.e
    c.in_ok-c-in-More.ensures
    room
    c.in-More-closing.j
    c.in-More-closing.ensures
