-- `same_strings` meets its contract. Strings are the same where neither stands before the other.
use mathlib.Core.Path.{◌∙◌}
use Rattle.json_strings.proofs.Orders.{same_answer}
use Rattle.json_strings.proofs.pairs.same_strings.Goals as goal

pub returns : goal.returns
returns c = c.is_eq.ensures ∙ same_answer _ _ c.order_strings.result c.order_strings.ensures
