-- `same_pairs` meets its contract: one way, and then the other.
use mathlib.Core.Path.{sym, ◌∙◌}
use Rattle.log_agreement.specs.OneWay.{held_in}
use Rattle.log_agreement.proofs.Columns.{pairing-agrees}
use Rattle.log_agreement.proofs.Stated.{and-then, and-else}
use Rattle.log_agreement.proofs.partitions.same_pairs.Goals as goal

pub returns-then-pairs_held : goal.returns-then-pairs_held
returns-then-pairs_held c =
    λ ps qs v w. and-then (c.pairs_held.ensures ps qs v w) (c.pairs_held-then-pairs_held.ensures qs ps w v) c.if-pairs_held.true ∙ sym (pairing-agrees v w)

pub returns-else-pairs_held : goal.returns-else-pairs_held
returns-else-pairs_held c =
    λ ps qs v w. and-else (held_in qs ps) (c.pairs_held.ensures ps qs v w) c.if-pairs_held.false ∙ sym (pairing-agrees v w)
