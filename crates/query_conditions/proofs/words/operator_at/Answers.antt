-- `operator_at` meets its contract: each answer by its word.
use Rattle.query_conditions.proofs.Saying.{op-eq, op-lt, op_le, op-gt, op-ge, op-none}
use Rattle.query_conditions.specs.Words.{operator_is}
use Rattle.json_strings.specs.Decoded.{decoded}
use Rattle.rules.specs.Bytes.{ascii}
use lib.ListN.{drop}
use mathlib.Core.Path.{sym, ap, ◌∙◌}
use Rattle.query_conditions.proofs.words.operator_at.Goals as goal

pub returns-then-string_is : goal.returns-then-string_is
unfolding operator_is ascii
returns-then-string_is c =
    ap operator_is (sym (op-eq (decoded (drop c.args.at c.args.q.now)) (sym c.string_is.ensures ∙ c.if-string_is.true)))

pub returns-then-string_is-2 : goal.returns-then-string_is-2
unfolding operator_is ascii
returns-then-string_is-2 c =
    ap operator_is
    (sym (op-lt (decoded (drop c.args.at c.args.q.now))
    (sym c.string_is.ensures ∙ c.if-string_is.false)
    (sym c.string_is-2.ensures ∙ c.if-string_is-2.true)))

pub returns-then-string_is-3 : goal.returns-then-string_is-3
unfolding operator_is ascii
returns-then-string_is-3 c =
    ap operator_is
    (sym (op_le (decoded (drop c.args.at c.args.q.now))
    (sym c.string_is.ensures ∙ c.if-string_is.false)
    (sym c.string_is-2.ensures ∙ c.if-string_is-2.false)
    (sym c.string_is-3.ensures ∙ c.if-string_is-3.true)))

pub returns-then-string_is-4 : goal.returns-then-string_is-4
unfolding operator_is ascii
returns-then-string_is-4 c =
    ap operator_is
    (sym (op-gt (decoded (drop c.args.at c.args.q.now)) (sym c.string_is.ensures ∙ c.if-string_is.false)
    (sym c.string_is-2.ensures ∙ c.if-string_is-2.false)
    (sym c.string_is-3.ensures ∙ c.if-string_is-3.false)
    (sym c.string_is-4.ensures ∙ c.if-string_is-4.true)))

pub returns-then-string_is-5 : goal.returns-then-string_is-5
unfolding operator_is ascii
returns-then-string_is-5 c =
    ap operator_is
    (sym (op-ge (decoded (drop c.args.at c.args.q.now)) (sym c.string_is.ensures ∙ c.if-string_is.false) (sym c.string_is-2.ensures ∙ c.if-string_is-2.false)
    (sym c.string_is-3.ensures ∙ c.if-string_is-3.false)
    (sym c.string_is-4.ensures ∙ c.if-string_is-4.false)
    (sym c.string_is-5.ensures ∙ c.if-string_is-5.true)))

pub returns-else-string_is-5 : goal.returns-else-string_is-5
unfolding operator_is ascii
returns-else-string_is-5 c =
    ap operator_is
    (sym (op-none (decoded (drop c.args.at c.args.q.now)) (sym c.string_is.ensures ∙ c.if-string_is.false) (sym c.string_is-2.ensures ∙ c.if-string_is-2.false)
    (sym c.string_is-3.ensures ∙ c.if-string_is-3.false)
    (sym c.string_is-4.ensures ∙ c.if-string_is-4.false)
    (sym c.string_is-5.ensures ∙ c.if-string_is-5.false)))
