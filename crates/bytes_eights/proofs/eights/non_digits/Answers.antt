-- `non_digits` meets its contract: the sum does not pass over 64 bits, and the bytes before the first mark are digits.
use Rattle.std.proofs.Common.{arith}
use lib.Bits.{bit_xor, and_le_r}
use Rattle.bytes_eights.proofs.Words.{joined}
use Rattle.bytes_eights.proofs.Digits.{digits-marked}
use Rattle.bytes_eights.proofs.eights.non_digits.Goals as goal

pub overflow_add-result : goal.overflow_add-result
overflow_add-result c = omega (arith, and_le_r (bit_xor c.args.w 0x3030303030303030) 0x7F7F7F7F7F7F7F7F)

pub returns : goal.returns
unfolding joined
returns c = digits-marked c.args.w
