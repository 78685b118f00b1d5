-- What is said of the part is said of the name.
use mathlib.Core.Path.{ap, ◌∙◌}
use Rattle.rules.specs.Names.{name_of}
use Rattle.file_names.specs.Names.{name_is}
use Rattle.rules.specs.Bytes.{Bytes}
use Rattle.file_bundle.proofs.kind.Goals as goal

pub returns : goal.returns
returns c = c.name_of.ensures ∙ ap (λ (x : Bytes). name_is (name_of x)) c.name_in.ensures
