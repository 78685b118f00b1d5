-- By its first bytes, or one case of the name's answer.
use mathlib.Core.Path.{sym, ap, ◌∙◌}
use Rattle.file_bundle.proofs.Large.{large-told, large-untold}
use Rattle.rules.specs.Bytes.{Bytes}
use Rattle.rules.specs.Names.{name_of, is_too_large}
use Rattle.file_names.proofs.Low.{low-name}
use Rattle.file_bundle.proofs.too_large.Goals as goal

pub returns-then-begins_low : goal.returns-then-begins_low
returns-then-begins_low c =
    let low = low-name _ (sym c.begins_low.ensures ∙ c.if-begins_low.true) in
    sym (ap (λ (n : Bytes). is_too_large (name_of n)) (sym c.name_in.ensures) ∙ low)

pub returns-in-TooLarge : goal.returns-in-TooLarge
returns-in-TooLarge c = large-told _ (sym c.in-TooLarge.ensures)

pub returns-in_default : goal.returns-in_default
returns-in_default c = large-untold _ (λ e. c.in_default.not-TooLarge (c.kind.ensures ∙ e))
