-- `kind_at` meets its contract: each answer by its word.
use Rattle.query_conditions.proofs.Saying.{as-text, as-number, as_none}
use Rattle.query_conditions.specs.Words.{kind_is}
use Rattle.json_strings.specs.Decoded.{decoded}
use Rattle.rules.specs.Bytes.{ascii}
use lib.ListN.{drop}
use mathlib.Core.Path.{sym, ap, ◌∙◌}
use Rattle.query_conditions.proofs.words.kind_at.Goals as goal

pub returns-then-string_is : goal.returns-then-string_is
unfolding kind_is ascii
returns-then-string_is c =
    ap kind_is (sym (as-text (decoded (drop c.args.at c.args.q.now)) (sym c.string_is.ensures ∙ c.if-string_is.true)))

pub returns-then-string_is-2 : goal.returns-then-string_is-2
unfolding kind_is ascii
returns-then-string_is-2 c =
    ap kind_is
    (sym (as-number (decoded (drop c.args.at c.args.q.now))
    (sym c.string_is.ensures ∙ c.if-string_is.false)
    (sym c.string_is-2.ensures ∙ c.if-string_is-2.true)))

pub returns-else-string_is-2 : goal.returns-else-string_is-2
unfolding kind_is ascii
returns-else-string_is-2 c =
    ap kind_is
    (sym (as_none (decoded (drop c.args.at c.args.q.now))
    (sym c.string_is.ensures ∙ c.if-string_is.false)
    (sym c.string_is-2.ensures ∙ c.if-string_is-2.false)))
