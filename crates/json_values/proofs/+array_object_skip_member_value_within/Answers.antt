-- `value_within`, `object`, `skip_member` and `array` call each other. The loops of `array` and `object` keep `Going` over the values of the array and
-- over the members of the object, and each way out is one of its laws. `skip_member`: two plain strings at once, or a name and what `value_within` reads
-- behind it. `value_within`: by the first byte an object, an array or a scalar.
use mathlib.Core.Path.{refl, sym, ap, ◌∙◌}
use Prim.Native.Nat.{◌+◌, ◌≤◌}
use native.Mathlib.Omega.{arith}
use Rattle.rules.specs.Json.Text.{behind, spelled}
use Rattle.rules.specs.Json.Values.{member, contents, elements, scalar, value as rule_value}
use Rattle.rules.proofs.Json.TextReads.{spelled-reads}
use Rattle.rules.proofs.Json.ValueReads.{member-reads, value-reads}
use Rattle.rules.proofs.Json.Shadows.{behind-spelled}
use Rattle.rules.proofs.Json.Steps.{value-end, value-object, value-array, value-no-object, value-no-array, value-scalar}
use Rattle.std.specs.Prelude.{Some}
use Rattle.json_tokens.proofs.Places.{here, here-is, ended, answer-from}
use Rattle.json_values.proofs.Names.{member-nameless, member-named}
use Rattle.json_values.proofs.Numbers.{numbered-none, numbered-at, numbered-from, numbered-anew}
use Rattle.json_values.proofs.Turns.{going_start, opened-none, opened-closed, going-none, going-neither, going-closed, going_more}
use Rattle.json_values.proofs.+array_object_skip_member_value_within.Goals as goal

-- ---- `array`

pub array-loop-at-init : goal.array-loop-at-init
array-loop-at-init t c = going_start (spelled (rule_value c.args.depth)) 0x5D c.args.s.now c.args.at c.in-More.ensures

pub array-returns-then-j-eq0 : goal.array-returns-then-j-eq0
unfolding elements
array-returns-then-j-eq0 t c = going-none c.loop-at.invariant (behind-spelled _ _ ∙ c.value_within-j.ensures.nothing c.if-j-eq0.true)

pub array-returns-in-Neither-closing : goal.array-returns-in-Neither-closing
unfolding elements
array-returns-in-Neither-closing t c =
    going-neither
    c.loop-at.invariant
    c.value_within-j.result
    (behind-spelled _ _ ∙ (c.value_within-j.ensures.found (omega arith)).0)
    c.in-Neither-closing.ensures

pub array-returns-in-Closed-closing : goal.array-returns-in-Closed-closing
unfolding elements
array-returns-in-Closed-closing t c =
    going-closed
    c.loop-at.invariant
    c.value_within-j.result
    (behind-spelled _ _ ∙ (c.value_within-j.ensures.found (omega arith)).0)
    (spelled-reads (value-reads c.args.depth))
    c.requires
    c.in-Closed-closing.ensures

pub array-loop-at-preserved : goal.array-loop-at-preserved
array-loop-at-preserved t c =
    going_more
    c.loop-at.invariant
    c.value_within-j.result
    (behind-spelled _ _ ∙ (c.value_within-j.ensures.found (omega arith)).0)
    (spelled-reads (value-reads c.args.depth))
    c.in-More-closing.ensures

pub array-returns-in-Neither : goal.array-returns-in-Neither
unfolding elements
array-returns-in-Neither t c = opened-none (spelled (rule_value c.args.depth)) 0x5D c.args.s.now c.args.at c.in-Neither.ensures

pub array-returns-in-Closed : goal.array-returns-in-Closed
unfolding elements
array-returns-in-Closed t c =
    opened-closed
    (spelled (rule_value c.args.depth))
    0x5D
    c.args.s.now
    c.args.at
    (spelled-reads (value-reads c.args.depth))
    c.requires
    c.in-Closed.ensures

-- ---- `object`

pub object-loop-at-init : goal.object-loop-at-init
object-loop-at-init t c = going_start (member (rule_value c.args.depth)) 0x7D c.args.s.now c.args.at c.in-More.ensures

pub object-returns-then-j-eq0 : goal.object-returns-then-j-eq0
unfolding contents
object-returns-then-j-eq0 t c =
    let m = numbered-anew (λ u. behind (member (rule_value c.args.depth) u)) c.args.s.now c.loop-at.i c.skip_member-j.result c.skip_member-j.ensures in
    going-none c.loop-at.invariant (m.nothing c.if-j-eq0.true)

pub object-returns-in-Neither-closing : goal.object-returns-in-Neither-closing
unfolding contents
object-returns-in-Neither-closing t c =
    let m = numbered-anew (λ u. behind (member (rule_value c.args.depth) u)) c.args.s.now c.loop-at.i c.skip_member-j.result c.skip_member-j.ensures in
    going-neither c.loop-at.invariant c.skip_member-j.result (m.found (omega arith)).0 c.in-Neither-closing.ensures

pub object-returns-in-Closed-closing : goal.object-returns-in-Closed-closing
unfolding contents
object-returns-in-Closed-closing t c =
    let m = numbered-anew (λ u. behind (member (rule_value c.args.depth) u)) c.args.s.now c.loop-at.i c.skip_member-j.result c.skip_member-j.ensures in
    going-closed
    c.loop-at.invariant
    c.skip_member-j.result
    (m.found (omega arith)).0
    (member-reads (value-reads c.args.depth))
    c.requires
    c.in-Closed-closing.ensures

pub object-loop-at-preserved : goal.object-loop-at-preserved
object-loop-at-preserved t c =
    let m = numbered-anew (λ u. behind (member (rule_value c.args.depth) u)) c.args.s.now c.loop-at.i c.skip_member-j.result c.skip_member-j.ensures in
    going_more
    c.loop-at.invariant
    c.skip_member-j.result
    (m.found (omega arith)).0
    (member-reads (value-reads c.args.depth))
    c.in-More-closing.ensures

pub object-returns-in-Neither : goal.object-returns-in-Neither
unfolding contents
object-returns-in-Neither t c = opened-none (member (rule_value c.args.depth)) 0x7D c.args.s.now c.args.at c.in-Neither.ensures

pub object-returns-in-Closed : goal.object-returns-in-Closed
unfolding contents
object-returns-in-Closed t c =
    opened-closed
    (member (rule_value c.args.depth))
    0x7D
    c.args.s.now
    c.args.at
    (member-reads (value-reads c.args.depth))
    c.requires
    c.in-Closed.ensures

-- ---- `skip_member`

pub skip_member-returns-then-end-gt0 : goal.skip_member-returns-then-end-gt0
skip_member-returns-then-end-gt0 t c = numbered-at (omega arith) (c.plain_member-end.ensures c.args.depth c.if-end-gt0.true)

pub skip_member-returns-in_default : goal.skip_member-returns-in_default
skip_member-returns-in_default t c = numbered-none (member-nameless _ _ c.in_default.ensures)

pub skip_member-returns : goal.skip_member-returns
skip_member-returns t c =
    let n = c.in-Some.ensures in
    let behind-name : c.args.at + 1 ≤ c.in-Some.v = n.1 in
    numbered-from _ _
    c.args.s.now
    _ _ _
    c.value_within.ensures
    (omega arith)
    (member-named _ _ n.0 refl)

-- ---- `value_within`

pub value_within-returns-then-s-at : goal.value_within-returns-then-s-at
value_within-returns-then-s-at t c = numbered-none (ap (rule_value c.args.depth) (ended _ _ c.if-s-at.true) ∙ value-end _)

pub value_within-returns-then-depth-eq0 : goal.value_within-returns-then-depth-eq0
value_within-returns-then-depth-eq0 t c =
    numbered-none
    (ap (rule_value c.args.depth) (here-is _ _ 0x7B c.if-s-at.false c.if-b-eq-OPEN_BRACE.true)
    ∙ value-no-object _ _ c.if-depth-eq0.true)

pub value_within-returns-then-b-eq-OPEN_BRACE : goal.value_within-returns-then-b-eq-OPEN_BRACE
value_within-returns-then-b-eq-OPEN_BRACE t c =
    numbered-from _ _
    c.args.s.now
    _ _
    c.object.result
    c.object.ensures
    (omega arith)
    (ap (rule_value c.args.depth) (here-is _ _ 0x7B c.if-s-at.false c.if-b-eq-OPEN_BRACE.true)
    ∙ value-object _ _ _ (omega arith))

pub value_within-returns-then-depth-eq0-2 : goal.value_within-returns-then-depth-eq0-2
value_within-returns-then-depth-eq0-2 t c =
    numbered-none
    (ap (rule_value c.args.depth) (here-is _ _ 0x5B c.if-s-at.false c.if-b-eq-OPEN_BRACKET.true)
    ∙ value-no-array _ _ c.if-depth-eq0-2.true)

pub value_within-returns-then-b-eq-OPEN_BRACKET : goal.value_within-returns-then-b-eq-OPEN_BRACKET
value_within-returns-then-b-eq-OPEN_BRACKET t c =
    numbered-from _ _
    c.args.s.now
    _ _
    c.array.result
    c.array.ensures
    (omega arith)
    (ap (rule_value c.args.depth) (here-is _ _ 0x5B c.if-s-at.false c.if-b-eq-OPEN_BRACKET.true)
    ∙ value-array _ _ _ (omega arith))

-- what the scalar says of the text from `at` on is what the value says
pub value_within-returns-in_default : goal.value_within-returns-in_default
value_within-returns-in_default t c =
    let h = here _ _ c.if-s-at.false in
    numbered-none
    (ap (rule_value c.args.depth) h ∙ value-scalar _ _ _ c.if-b-eq-OPEN_BRACE.false c.if-b-eq-OPEN_BRACKET.false ∙ ap scalar (sym h)
    ∙ c.in_default.ensures)

pub value_within-returns : goal.value_within-returns
value_within-returns t c =
    let h = here _ _ c.if-s-at.false in
    numbered-at (omega arith)
    (answer-from _ _ c.args.s.now (c.args.at + 1) (c.args.at + 1) (Some c.in-Some.end) c.in-Some.ensures (omega arith)
    (ap (rule_value c.args.depth) h ∙ value-scalar _ _ _ c.if-b-eq-OPEN_BRACE.false c.if-b-eq-OPEN_BRACKET.false ∙ ap scalar (sym h)))
