-- `scan_string` meets its contract. As far as it went the string is spelled as it stands.
use Prim.Native.Nat.{◌+◌, ◌≤◌}
use native.Mathlib.Omega.{arith}
use Rattle.rules.specs.Json.Text.{behind}
use Rattle.rules.specs.Json.Strings.{unescaped, string}
use Rattle.std.specs.Prelude.{Some, None}
use Rattle.json_tokens.proofs.Anew.{within-anew, answer-anew}
use Rattle.json_strings.proofs.Scanning.{scanning-start, scanning-no-rest, scanning-ended, scanning-quote}
use Rattle.json_strings.proofs.Scanning.{scanning-backslash, scanning-bad, scanning-more, scanning-run}
use Rattle.json_strings.proofs.spellings.scan_string.Goals as goal

pub returns-then-s-i : goal.returns-then-s-i
returns-then-s-i c =
    scanning-ended (scanning-run (scanning-start c.requires) (c.skip_plain-i.ensures.0, c.skip_plain-i.ensures.1, c.skip_plain-i.ensures.2)) c.if-s-i.true

pub returns-then-s-i-eq-QUOTE : goal.returns-then-s-i-eq-QUOTE
returns-then-s-i-eq-QUOTE c =
    let scanned = scanning-run (scanning-start c.requires) (c.skip_plain-i.ensures.0, c.skip_plain-i.ensures.1, c.skip_plain-i.ensures.2) in
    scanning-quote scanned c.if-s-i.false c.if-s-i-eq-QUOTE.true

pub loop-i-init : goal.loop-i-init
loop-i-init c =
    scanning-run (scanning-start c.requires) (c.skip_plain-i.ensures.0, c.skip_plain-i.ensures.1, c.skip_plain-i.ensures.2)

pub bounds-s-i-in-loop-i : goal.bounds-s-i-in-loop-i
bounds-s-i-in-loop-i c = omega arith

pub overflow_add-result-then-b-eq-QUOTE : goal.overflow_add-result-then-b-eq-QUOTE
overflow_add-result-then-b-eq-QUOTE c = omega arith

pub returns-then-b-eq-QUOTE : goal.returns-then-b-eq-QUOTE
returns-then-b-eq-QUOTE c = scanning-quote c.loop-i.invariant c.loop-i-test.true c.if-b-eq-QUOTE.true

pub skip_chars-requires : goal.skip_chars-requires
skip_chars-requires c =
    within-anew c.args.s.now _ c.loop-i.invariant.within

pub returns-in_default : goal.returns-in_default
returns-in_default c =
    scanning-no-rest c.loop-i.invariant (answer-anew (λ t. behind (string t)) c.args.s.now c.loop-i.i None c.in_default.ensures)

pub returns-then-b-eq-BACKSLASH : goal.returns-then-b-eq-BACKSLASH
returns-then-b-eq-BACKSLASH c =
    scanning-backslash
    c.loop-i.invariant
    c.loop-i-test.true
    c.in-Some.j
    c.if-b-eq-BACKSLASH.true
    (answer-anew (λ t. behind (string t)) c.args.s.now c.loop-i.i (Some c.in-Some.j) c.in-Some.ensures)

pub skip_unescaped-requires : goal.skip_unescaped-requires
skip_unescaped-requires c =
    within-anew c.args.s.now _ c.loop-i.invariant.within

pub returns-in_default-skip_unescaped : goal.returns-in_default-skip_unescaped
returns-in_default-skip_unescaped c =
    scanning-bad
    c.loop-i.invariant
    c.loop-i-test.true
    c.if-b-eq-QUOTE.false
    c.if-b-eq-BACKSLASH.false
    (answer-anew unescaped c.args.s.now c.loop-i.i None c.in_default-skip_unescaped.ensures)

pub skip_plain-i-requires-in-loop-i : goal.skip_plain-i-requires-in-loop-i
skip_plain-i-requires-in-loop-i c = (answer-anew unescaped c.args.s.now c.loop-i.i (Some c.in-Some-skip_unescaped.k) c.in-Some-skip_unescaped.ensures).2

pub loop-i-smaller : goal.loop-i-smaller
loop-i-smaller c =
    let e = answer-anew unescaped c.args.s.now c.loop-i.i (Some c.in-Some-skip_unescaped.k) c.in-Some-skip_unescaped.ensures in
    let further : c.loop-i.i + 1 ≤ c.in-Some-skip_unescaped.k = e.1 in
    omega (arith, c.skip_plain-i-in-loop-i.ensures.0, c.skip_plain-i-in-loop-i.ensures.1)

pub loop-i-preserved : goal.loop-i-preserved
loop-i-preserved c =
    let e = answer-anew unescaped c.args.s.now c.loop-i.i (Some c.in-Some-skip_unescaped.k) c.in-Some-skip_unescaped.ensures in
    let more = scanning-more c.loop-i.invariant c.loop-i-test.true c.if-b-eq-QUOTE.false c.if-b-eq-BACKSLASH.false _ e.0 e.1 e.2 in
    scanning-run more (c.skip_plain-i-in-loop-i.ensures.0, c.skip_plain-i-in-loop-i.ensures.1, c.skip_plain-i-in-loop-i.ensures.2)

pub returns : goal.returns
returns c = scanning-ended c.loop-i.invariant c.loop-i-test.false
