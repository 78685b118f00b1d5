-- `met_then` meets its contract: what was met first stays, and else the name tells.
use Rattle.query_conditions.proofs.Naming.{met-stays, met-later, met-as, met-value, met-neither}
use Rattle.json_strings.specs.Decoded.{decoded}
use Rattle.rules.specs.Bytes.{ascii}
use lib.ListN.{drop}
use mathlib.Core.Path.{sym, ◌∙◌}
use Rattle.query_conditions.proofs.members.met_then.Goals as goal

pub returns-then-is_some : goal.returns-then-is_some
returns-then-is_some c = met-stays c.args.first _ c.if-is_some.ensures

pub returns-then-string_is : goal.returns-then-string_is
unfolding ascii
returns-then-string_is c =
    sym (met-later c.args.first _ c.if-is_some.ensures
    ∙ met-as (decoded (drop c.args.at c.args.s.now)) (sym c.if-string_is.ensures))

pub returns-then-string_is-2 : goal.returns-then-string_is-2
unfolding ascii
returns-then-string_is-2 c =
    sym (met-later c.args.first _ c.if-is_some.ensures
    ∙ met-value (decoded (drop c.args.at c.args.s.now)) (sym c.if-string_is.ensures) (sym c.if-string_is-2.ensures))

pub returns : goal.returns
unfolding ascii
returns c =
    sym (met-later c.args.first _ c.if-is_some.ensures
    ∙ met-neither (decoded (drop c.args.at c.args.s.now)) (sym c.if-string_is.ensures) (sym c.if-string_is-2.ensures))
