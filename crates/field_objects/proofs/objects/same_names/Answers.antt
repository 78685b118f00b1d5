-- `same_names` meets its contract. A plain name is a key.
use mathlib.Core.Path.{sym, ap, ◌∙◌}
use Rattle.rules.specs.Bytes.{Bytes, same}
use Rattle.field_names.specs.Spelled.{name_in}
use Rattle.field_objects.proofs.objects.same_names.Goals as goal

pub returns-then-b : goal.returns-then-b
returns-then-b c =
    c.name_is.ensures ∙ ap (λ (x : Bytes). same (name_in c.args.s.now c.args.a) x) (sym (c.requires.1.raw c.if-b.true))
