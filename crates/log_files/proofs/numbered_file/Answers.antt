-- The digits are written over the zeros, and the file of that name is looked for; above the highest version there is none.
use native.Mathlib.Omega.{arith}
use mathlib.Core.Path.{ap}
use lib.ListN.{length}
use Rattle.std.proofs.Common.{length-take}
use Rattle.rules.specs.Numbers.{most}
use Rattle.log_files.proofs.Digits.{length_digits}
use Rattle.log_files.proofs.numbered_file.Goals as goal

pub write_digits-requires : goal.write_digits-requires
write_digits-requires g c = (omega (arith, ap length c.requires.1, length_digits 20 0, length-take 20 c.args.name), c.requires.1)

pub returns-then-v-gt-MOST-clause-within : goal.returns-then-v-gt-MOST-clause-within
unfolding most
returns-then-v-gt-MOST-clause-within g c l = absurd (omega arith)

pub returns-clause-above : goal.returns-clause-above
unfolding most
returns-clause-above g c l = absurd (omega arith)
