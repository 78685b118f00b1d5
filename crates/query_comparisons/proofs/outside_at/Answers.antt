-- `outside_at` meets its contract: texts by their order, and numbers by theirs.
use Rattle.query_conditions.proofs.Numbered.{bound-number}
use Rattle.query_comparisons.proofs.Comparing.{outside-orders, outside-numerals}
use Rattle.query_conditions.specs.declared.words.As.{As}
use Rattle.query_comparisons.specs.Between.{outside_by}
use Rattle.query_conditions.specs.Words.{as_is, op_is}
use Rattle.json_strings.specs.Decoded.{decoded}
use Rattle.rules.specs.Manifests.{outside, outside_as}
use Rattle.rules.specs.Bytes.{order}
use lib.ListN.{drop}
use mathlib.Core.Path.{sym, ap, ◌∙◌}
use Rattle.query_comparisons.proofs.outside_at.Goals as goal

pub returns-in-Text : goal.returns-in-Text
unfolding as_is outside_as outside outside_by
returns-in-Text c =
    c.outside.ensures
    ∙ outside-orders (op_is c.args.c.op) (order (decoded (drop c.args.lo c.args.s.now)) (decoded (drop c.args.hi c.args.s.now)))
    (order (decoded (drop c.args.lo c.args.s.now)) (decoded (drop c.args.c.bound c.args.q.now)))
    (order (decoded (drop c.args.hi c.args.s.now)) (decoded (drop c.args.c.bound c.args.q.now)))
    c.order_strings.ensures c.order_strings-in-Text.ensures c.order_strings-in-Text-2.ensures
    ∙ sym (ap
    (λ (k : As). outside_as (as_is k) (op_is c.args.c.op) (decoded (drop c.args.c.bound c.args.q.now)) (decoded (drop c.args.lo c.args.s.now))
    (decoded (drop c.args.hi c.args.s.now)))
    c.in-Text.is)

pub returns-in-Number : goal.returns-in-Number
unfolding as_is
returns-in-Number c =
    c.outside_numbers.ensures
    ∙ outside-numerals (op_is c.args.c.op) (decoded (drop c.args.c.bound c.args.q.now)) (decoded (drop c.args.lo c.args.s.now))
    (decoded (drop c.args.hi c.args.s.now))
    c.args.c.number (bound-number c.args.q.now c.args.c c.requires.0 c.in-Number.is) c.numeral_in.ensures c.numeral_in-in-Number.ensures
    ∙ sym (ap
    (λ (k : As). outside_as (as_is k) (op_is c.args.c.op) (decoded (drop c.args.c.bound c.args.q.now)) (decoded (drop c.args.lo c.args.s.now))
    (decoded (drop c.args.hi c.args.s.now)))
    c.in-Number.is)
