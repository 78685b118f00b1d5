-- `stops` meets its contract: the bytes before the first mark are plain.
use Rattle.bytes_eights.proofs.Words.{joined}
use Rattle.bytes_eights.proofs.Marks.{plain-marked}
use Rattle.bytes_eights.proofs.eights.stops.Goals as goal

pub wrapping_sub_u64-quotes-requires : goal.wrapping_sub_u64-quotes-requires
wrapping_sub_u64-quotes-requires c = tt

pub wrapping_sub_u64-backslashes-requires : goal.wrapping_sub_u64-backslashes-requires
wrapping_sub_u64-backslashes-requires c = tt

pub wrapping_sub_u64-controls-requires : goal.wrapping_sub_u64-controls-requires
wrapping_sub_u64-controls-requires c = tt

pub returns : goal.returns
unfolding joined
returns c =
    plain-marked
    c.args.w
    c.wrapping_sub_u64-quotes.result
    c.wrapping_sub_u64-backslashes.result
    c.wrapping_sub_u64-controls.result
    c.wrapping_sub_u64-quotes.ensures.value
    c.wrapping_sub_u64-backslashes.ensures.value
    c.wrapping_sub_u64-controls.ensures.value
