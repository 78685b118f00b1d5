-- The text is well spelled by the `requires`, and m" is by computation.
use mathlib.Core.Path.{refl}
use Rattle.rules.proofs.Opened.{rules}
use Rattle.program_verdicts.proofs.print_spelled.Goals as goal

pub order_strings-requires : goal.order_strings-requires
unfolding rules
order_strings-requires c = (c.requires, record { end = 2; closed = refl })
