-- `list_asked`: by the names, and then by the version that is asked for.
use mathlib.Core.Path.{sym, ◌∙◌}
use Rattle.refusals.specs.Numbered.{numbered}
use Rattle.reading.proofs.Rules.{asked-latest, asked-at, answering-large, answering-version}
use Rattle.reading.proofs.Rooms.{answer-same}
use native.Mathlib.Omega.{arith}
use Rattle.reading.proofs.list_asked.Goals as goal

pub refuse-requires : goal.refuse-requires
unfolding numbered
refuse-requires c = (c.requires.1, λ n. omega arith)

pub returns-then-any_too_large : goal.returns-then-any_too_large
unfolding numbered
returns-then-any_too_large c =
    answer-same _ _ _ _ _
    (answering-large _ _ _ (sym c.any_too_large.ensures ∙ c.if-any_too_large.true))
    c.refuse.ensures

pub returns-in-None : goal.returns-in-None
returns-in-None c =
    answer-same _ _ _ _ _
    (answering-version _ _ _
    (sym c.any_too_large.ensures ∙ c.if-any_too_large.false) _
    (asked-latest _ _ c.in-None.is))
    c.list_latest.ensures

pub returns-in-Some : goal.returns-in-Some
returns-in-Some c =
    answer-same _ _ _ _ _
    (answering-version _ _ _ (sym c.any_too_large.ensures ∙ c.if-any_too_large.false) _
    (asked-at _ _ _ c.in-Some.is))
    c.list_at.ensures
