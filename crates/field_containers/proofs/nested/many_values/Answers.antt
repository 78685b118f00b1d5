-- `many_values` meets its contract. Whether they are pairs, and then whether their names are distinct.
use mathlib.Core.Path.{refl, subst}
use Rattle.rules.specs.Actions.{in_field}
use Rattle.rules.specs.Bytes.{firsts}
use Rattle.field_objects.proofs.Meeting.{contents-object}
use Rattle.field_scalars.specs.Texts.{Told}
use Rattle.field_containers.proofs.Few.{many-told}
use Rattle.field_containers.proofs.nested.many_values.Goals as goal

pub distinct_names-requires : goal.distinct_names-requires
unfolding in_field
distinct_names-requires c =
    (c.requires.0, contents-object in_field c.args.s.now c.args.at c.requires.1.all)

pub returns-then-strings_or_nulls : goal.returns-then-strings_or_nulls
unfolding in_field
returns-then-strings_or_nulls c =
    λ w. many-told
    w.ms
    _
    (subst (Told _) c.if-strings_or_nulls.true (c.strings_or_nulls.ensures w))
    (c.distinct_names.ensures (firsts w.ms) (record { ms = w.ms; left = w.left; all = w.all; each = refl }))
