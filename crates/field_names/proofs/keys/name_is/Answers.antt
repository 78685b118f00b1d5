-- `name_is` meets its contract. A plain name is compared where it stands, another by the bytes that it stands for.
use mathlib.Core.Path.{sym, ap, ◌∙◌}
use Rattle.rules.specs.Bytes.{Bytes, same}
use Rattle.field_names.proofs.keys.name_is.Goals as goal

pub returns-then-n : goal.returns-then-n
returns-then-n c =
    c.same_bytes.ensures ∙ ap (λ (x : Bytes). same x c.args.key.now) (sym (c.requires.raw c.if-n.true))
