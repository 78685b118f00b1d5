-- `judge_at` meets its contract: texts by their order, numbers by theirs; what is out of range is told, and what is no number meets none.
use Rattle.query_conditions.proofs.Numbered.{bound-number}
use Rattle.query_comparisons.proofs.Comparing.{text-judged, number-judged, out-judged, not-judged, kind-judged}
use Rattle.query_conditions.specs.Words.{as_is, op_is}
use Rattle.json_strings.specs.Decoded.{decoded}
use Rattle.query_numbers.proofs.Back.{numeral-number, numeral-out, numeral-not}
use Rattle.rules.specs.Query.{number_of}
use Rattle.std.specs.Prelude.{Ok}
use lib.ListN.{drop}
use mathlib.Core.Path.{ap, ◌∙◌}
use Rattle.query_comparisons.proofs.judge_at.Goals as goal

pub returns-in-Text : goal.returns-in-Text
unfolding as_is
returns-in-Text c =
    let v = decoded (drop c.args.at c.args.s.now) in
    let b = decoded (drop c.args.c.bound c.args.q.now) in
    let op = op_is c.args.c.op in
    ap Ok c.meets.ensures ∙ kind-judged op v b c.in-Text.is (text-judged op v b c.order_strings.ensures)

pub returns-in-Ok : goal.returns-in-Ok
unfolding as_is
returns-in-Ok c =
    let v = decoded (drop c.args.at c.args.s.now) in
    let b = decoded (drop c.args.c.bound c.args.q.now) in
    let op = op_is c.args.c.op in
    ap Ok c.meets-in-Ok.ensures
    ∙ kind-judged op v b c.in-Number.is
    (number-judged op v b c.in-Ok.n c.args.c.number
    (numeral-number (number_of v) c.in-Ok.ensures)
    (bound-number c.args.q.now c.args.c c.requires.0 c.in-Number.is)
    c.order_numbers.ensures)

pub returns-in-Err-OutOfRange : goal.returns-in-Err-OutOfRange
unfolding as_is
returns-in-Err-OutOfRange c =
    let v = decoded (drop c.args.at c.args.s.now) in
    let b = decoded (drop c.args.c.bound c.args.q.now) in
    let op = op_is c.args.c.op in
    kind-judged op v b c.in-Number.is (out-judged op v b (numeral-out (number_of v) (rw c.in-Err-OutOfRange.field-0-is at c.in-Err-OutOfRange.ensures)))

pub returns-in-Err-NotNumber : goal.returns-in-Err-NotNumber
unfolding as_is
returns-in-Err-NotNumber c =
    let v = decoded (drop c.args.at c.args.s.now) in
    let b = decoded (drop c.args.c.bound c.args.q.now) in
    let op = op_is c.args.c.op in
    kind-judged op v b c.in-Number.is (not-judged op v b (numeral-not (number_of v) (rw c.in-Err-NotNumber.field-0-is at c.in-Err-NotNumber.ensures)))
