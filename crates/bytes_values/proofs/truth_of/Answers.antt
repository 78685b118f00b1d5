-- `truth_of`: each answer by its words.
use mathlib.Core.Path.{sym, ◌∙◌}
use Rattle.rules.specs.Bytes.{ascii}
use Rattle.bytes_values.proofs.Words.{bool-true, bool_false, bool-none}
use Rattle.bytes_values.proofs.truth_of.Goals as goal

pub returns-then-same_bytes : goal.returns-then-same_bytes
unfolding ascii
returns-then-same_bytes c = (sym (bool-true c.args.v.now (sym c.same_bytes.ensures ∙ c.if-same_bytes.true)))

pub returns-then-same_bytes-2 : goal.returns-then-same_bytes-2
unfolding ascii
returns-then-same_bytes-2 c =
    (sym (bool_false c.args.v.now
    (sym c.same_bytes.ensures ∙ c.if-same_bytes.false)
    (sym c.same_bytes-2.ensures ∙ c.if-same_bytes-2.true)))

pub returns : goal.returns
unfolding ascii
returns c =
    (sym (bool-none c.args.v.now
    (sym c.same_bytes.ensures ∙ c.if-same_bytes.false)
    (sym c.same_bytes-2.ensures ∙ c.if-same_bytes-2.false)))
