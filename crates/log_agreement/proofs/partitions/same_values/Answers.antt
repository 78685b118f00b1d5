-- `same_values` meets its contract: strings by their bytes, null with null alone.
use mathlib.Core.Path.{sym, subst, ◌∙◌}
use Rattle.field_scalars.specs.Texts.{StringIs}
use Rattle.log_agreement.proofs.Values.{strings-agree, string-null-differ, null-string-differ, nulls-agree}
use Rattle.log_agreement.proofs.partitions.same_values.Goals as goal

pub returns-in-Some-Some : goal.returns-in-Some-Some
returns-in-Some-Some c =
    λ x y f g. c.same_strings.ensures ∙ sym (strings-agree _ _ f g c.in-Some-Some.ensures.0.says c.in-Some-Some.ensures'.0.says)

pub returns-in-None-None : goal.returns-in-None-None
returns-in-None-None c =
    λ x y f g. sym (nulls-agree _ _ f g (subst (StringIs _ _ _) c.in-None-None.is-0 c.string_at.ensures) c.in-None-None.ensures)

pub returns-in_default : goal.returns-in_default
returns-in_default c =
    λ x y f g. sym (string-null-differ _ _ f g c.in_default.ensures.0.says (subst (StringIs _ _ _) c.in_default.is-1 c.string_at-2.ensures))

pub returns-in_default-2 : goal.returns-in_default-2
returns-in_default-2 c =
    λ x y f g. sym (null-string-differ _ _ f g (subst (StringIs _ _ _) c.in_default.is-0 c.string_at.ensures) c.in_default.ensures.0.says)
