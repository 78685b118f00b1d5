-- `version_in`: the whole number of the field, by its range.
use Rattle.std.proofs.Common.{rules}
use Rattle.rules.specs.Bytes.{among}
use Rattle.field_scalars.proofs.version_in.Goals as goal

pub returns : goal.returns
unfolding among
returns c = search rules
