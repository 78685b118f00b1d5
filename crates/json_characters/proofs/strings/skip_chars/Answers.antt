-- `skip_chars` meets its contract. The characters from `at` on go on at i.
use Prim.Native.Nat.{◌≤◌, ◌+◌}
use native.Mathlib.Omega.{arith}
use Rattle.json_characters.proofs.Inside.{inside-start, inside-ended, inside-quote, inside-none, inside-more, inside-run}
use Rattle.json_characters.proofs.strings.skip_chars.Goals as goal

pub loop-i-init : goal.loop-i-init
loop-i-init c = inside-start c.requires

pub overflow_add-result : goal.overflow_add-result
overflow_add-result c = omega arith

pub returns-then-s-i-eq-QUOTE : goal.returns-then-s-i-eq-QUOTE
returns-then-s-i-eq-QUOTE c = (inside-quote c.loop-i.invariant c.loop-i-test.true c.if-s-i-eq-QUOTE.true, omega arith, omega arith)

pub is_literal_escape-requires : goal.is_literal_escape-requires
is_literal_escape-requires c = c.loop-i.invariant.within

pub overflow_add-i : goal.overflow_add-i
overflow_add-i c = omega (arith, (c.is_literal_escape.ensures c.if-is_literal_escape.true).2)

pub skip_plain-i-requires : goal.skip_plain-i-requires
skip_plain-i-requires c = (c.is_literal_escape.ensures c.if-is_literal_escape.true).2

pub loop-i-smaller-then-is_literal_escape : goal.loop-i-smaller-then-is_literal_escape
loop-i-smaller-then-is_literal_escape c =
    omega (arith, c.skip_plain-i.ensures.0, c.skip_plain-i.ensures.1)

pub loop-i-preserved-then-is_literal_escape : goal.loop-i-preserved-then-is_literal_escape
loop-i-preserved-then-is_literal_escape c =
    let e = c.is_literal_escape.ensures c.if-is_literal_escape.true in
    let run = c.skip_plain-i.ensures in
    inside-run (inside-more c.loop-i.invariant c.loop-i-test.true c.if-s-i-eq-QUOTE.false e.0 e.1 e.2) (run.0, run.1, run.2)

pub skip_char-requires : goal.skip_char-requires
skip_char-requires c = c.loop-i.invariant.within

pub returns-in_err-j : goal.returns-in_err-j
returns-in_err-j c =
    rw c.from_residual.ensures (inside-none c.loop-i.invariant c.loop-i-test.true c.if-s-i-eq-QUOTE.false c.in_err-j.ensures)

pub skip_plain-i-requires-else-is_literal_escape : goal.skip_plain-i-requires-else-is_literal_escape
skip_plain-i-requires-else-is_literal_escape c = c.in_ok-j.ensures.2

pub loop-i-smaller : goal.loop-i-smaller
loop-i-smaller c =
    let further : c.loop-i.i + 1 ≤ c.in_ok-j.j = c.in_ok-j.ensures.1 in
    omega (arith, c.skip_plain-i-else-is_literal_escape.ensures.0, c.skip_plain-i-else-is_literal_escape.ensures.1)

pub loop-i-preserved : goal.loop-i-preserved
loop-i-preserved c =
    let e = c.in_ok-j.ensures in
    let run = c.skip_plain-i-else-is_literal_escape.ensures in
    inside-run (inside-more c.loop-i.invariant c.loop-i-test.true c.if-s-i-eq-QUOTE.false e.0 e.1 e.2) (run.0, run.1, run.2)

pub returns : goal.returns
returns c = inside-ended c.loop-i.invariant c.loop-i-test.false
