-- `common_in` meets its contract.
use Rattle.std.proofs.Common.{ap, ◌∙◌}
use Rattle.bytes_eights.specs.Words.{zeros}
use Rattle.bytes_eights.proofs.eights.common_in.Goals as goal

pub differ-requires : goal.differ-requires
differ-requires c = tt

pub zero_bytes-requires : goal.zero_bytes-requires
zero_bytes-requires c = tt

pub returns : goal.returns
returns c =
    (c.zero_bytes.ensures.0, c.zero_bytes.ensures.1 ∙ ap zeros c.differ.ensures)
