-- The rule's range is the printable characters of ASCII.
use Rattle.rules.specs.Bytes.{among}
use Rattle.file_bundle.proofs.visible.Goals as goal

pub returns : goal.returns
unfolding among
returns c = c.is_ascii_graphic.ensures.value
