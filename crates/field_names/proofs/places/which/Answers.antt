-- `which` meets its contract. A plain name is looked for where it stands, another by the bytes that it stands for.
use mathlib.Core.Path.{sym, ap, ◌∙◌}
use Rattle.rules.specs.Bytes.{Bytes}
use Rattle.field_names.specs.Kinds.{names_of, seek}
use Rattle.field_names.proofs.places.which.Goals as goal

pub returns-then-n : goal.returns-then-n
returns-then-n c =
    c.place_of.ensures ∙ ap (λ (x : Bytes). seek x (names_of c.args.kind)) (sym (c.requires.raw c.if-n.true))
