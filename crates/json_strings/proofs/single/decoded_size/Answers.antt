-- `decoded_size` meets its contract. What was counted and what is to come are the whole.
use Prim.Native.Nat.{◌+◌, ◌≤◌}
use lib.ListN.{length}
use mathlib.Core.Path.{ap, ◌∙◌}
use native.Mathlib.Omega.{arith}
use Rattle.json_strings.proofs.Raw.{well-flat, well-within}
use Rattle.json_strings.proofs.Sizes.{counted_start, counted-ended, counted-quote, counted_none, counted-itself, counted-room, counted-escape}
use Rattle.json_strings.proofs.single.decoded_size.Goals as goal

pub loop-i-init : goal.loop-i-init
loop-i-init c = counted_start (omega (arith, well-within c.requires))

pub bounds-s-i : goal.bounds-s-i
bounds-s-i c = omega arith

pub returns-then-first-eq-QUOTE : goal.returns-then-first-eq-QUOTE
returns-then-first-eq-QUOTE c =
    counted-quote c.loop-i.invariant c.loop-i-test.true c.if-first-eq-QUOTE.true
    ∙ ap length (well-flat c.requires)

pub overflow_add-i : goal.overflow_add-i
overflow_add-i c = omega arith

pub escape-requires : goal.escape-requires
escape-requires c = omega arith

pub returns-in_default : goal.returns-in_default
returns-in_default c =
    counted_none c.loop-i.invariant
    c.loop-i-test.true c.if-first-eq-BACKSLASH.true
    c.in_default.ensures ∙ ap length (well-flat c.requires)

pub overflow_add-n : goal.overflow_add-n
overflow_add-n c =
    let e = c.in-Some.ensures in
    let l : c.loop-i.i + 1 + 1 ≤ c.in-Some.j = e.1 in
    let w : c.in-Some.j ≤ length c.args.s.now = e.2 in
    omega (arith, counted-room c.loop-i.invariant c.loop-i-test.true _ _ c.utf8_size-n.result e.0 (omega arith) w c.utf8_size-n.ensures)

pub loop-i-smaller-then-first-eq-BACKSLASH : goal.loop-i-smaller-then-first-eq-BACKSLASH
loop-i-smaller-then-first-eq-BACKSLASH c =
    let e = c.in-Some.ensures in
    let l : c.loop-i.i + 1 + 1 ≤ c.in-Some.j = e.1 in
    let w : c.in-Some.j ≤ length c.args.s.now = e.2 in
    omega arith

pub loop-i-preserved-then-first-eq-BACKSLASH : goal.loop-i-preserved-then-first-eq-BACKSLASH
loop-i-preserved-then-first-eq-BACKSLASH c =
    let e = c.in-Some.ensures in
    let l : c.loop-i.i + 1 + 1 ≤ c.in-Some.j = e.1 in
    counted-escape
    c.loop-i.invariant
    c.loop-i-test.true
    _ _
    c.utf8_size-n.result
    e.0
    (omega arith)
    e.2
    c.utf8_size-n.ensures
    c.if-first-eq-BACKSLASH.true

pub overflow_add-n-else-first-eq-BACKSLASH : goal.overflow_add-n-else-first-eq-BACKSLASH
overflow_add-n-else-first-eq-BACKSLASH c = omega arith

pub overflow_add-i-else-first-eq-BACKSLASH : goal.overflow_add-i-else-first-eq-BACKSLASH
overflow_add-i-else-first-eq-BACKSLASH c = omega arith

pub loop-i-smaller : goal.loop-i-smaller
loop-i-smaller c = omega arith

pub loop-i-preserved : goal.loop-i-preserved
loop-i-preserved c =
    counted-itself c.loop-i.invariant c.loop-i-test.true c.if-first-eq-QUOTE.false (λ e. omega arith)

pub returns : goal.returns
returns c = counted-ended c.loop-i.invariant c.loop-i-test.false ∙ ap length (well-flat c.requires)
