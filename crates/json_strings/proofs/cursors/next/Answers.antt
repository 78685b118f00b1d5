-- `next` meets its contract. Within a code point, at the end, at an escape, or over a byte that stands for itself.
use mathlib.Core.Path.{◌∙◌}
use native.Mathlib.Omega.{arith}
use Rattle.json_strings.proofs.Ahead.{flat-ended, flat-at-quote, ahead-fresh, went-fresh, stepped_fresh, went-part, went-itself}
use Rattle.json_strings.proofs.cursors.next.Goals as goal

pub returns-then-left-gt0 : goal.returns-then-left-gt0
returns-then-left-gt0 c =
    went-part c.args.s.now c.args.c c.requires c.if-left-gt0.true c.utf8_byte.ensures

pub returns-then-s-at : goal.returns-then-s-at
returns-then-s-at c =
    ahead-fresh c.args.s.now c.args.c (omega arith) ∙ flat-ended c.args.s.now c.args.c.at c.if-s-at.true

pub returns-then-b-eq-QUOTE : goal.returns-then-b-eq-QUOTE
returns-then-b-eq-QUOTE c =
    ahead-fresh c.args.s.now c.args.c (omega arith) ∙ flat-at-quote c.args.s.now c.args.c.at c.if-s-at.false c.if-b-eq-QUOTE.true

pub returns-then-b-eq-BACKSLASH : goal.returns-then-b-eq-BACKSLASH
returns-then-b-eq-BACKSLASH c =
    stepped_fresh c.args.s.now c.args.c c.next_escaped.result (omega arith) c.next_escaped.ensures

pub returns : goal.returns
returns c =
    went-fresh
    c.args.s.now
    c.args.c
    (omega arith)
    (went-itself c.args.s.now c.args.c.at c.if-s-at.false c.if-b-eq-QUOTE.false c.if-b-eq-BACKSLASH.false)
