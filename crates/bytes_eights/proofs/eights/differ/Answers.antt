-- `differ` meets its contract.
use Rattle.std.proofs.Common.{refl}
use Rattle.bytes_eights.proofs.eights.differ.Goals as goal

pub returns : goal.returns
returns c = refl
