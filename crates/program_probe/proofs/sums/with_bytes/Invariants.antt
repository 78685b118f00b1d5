-- `with_bytes` meets its contract. The sum stays below the modulus.
use Rattle.std.proofs.Common.{◌<◌}
use Rattle.program_probe.proofs.sums.with_bytes.Given as goal

abbrev pub invariant-loop-b : goal.invariant-loop-b
invariant-loop-b l = l.h < 4294967291 → l.sum < 4294967291
