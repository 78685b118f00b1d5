-- `zero_bytes` meets its contract.
use Rattle.std.proofs.Common.{refl}
use mir.Facts.{Fits-below}
use Rattle.bytes_eights.specs.Words.{zeros}
use Rattle.bytes_eights.proofs.Words.{zeros-le}
use Rattle.bytes_eights.proofs.eights.zero_bytes.Goals as goal

pub overflow_cast-result : goal.overflow_cast-result
unfolding zeros
overflow_cast-result c = Fits-below tt (zeros-le c.args.m)

pub returns : goal.returns
unfolding zeros
returns c = (zeros-le c.args.m, refl)
