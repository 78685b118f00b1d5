-- `begins_low` meets its contract: the two bytes are looked at one after the other.
use mathlib.Core.Path.{sym, ◌∙◌}
use borrow.Author.Tests.{eqb-true, eqb-false, lt-leb}
use Rattle.rules.proofs.Tests.{true-not-false}
use Rattle.bytes_values.proofs.Words.{begins-longer}
use Rattle.file_names.specs.Names.{two_zeros}
use Rattle.file_names.proofs.Low.{zeros-first, zeros-second}
use Rattle.file_names.proofs.begins_low.Goals as goal
use Rattle.file_names.proofs.begins_low.Goals.{then-n-ge2, else-n-ge2}

pub returns-then-n-eq48 : goal.returns-then-n-eq48
returns-then-n-eq48 c = elim c.if-n-ge2.branch [
  | then-n-ge2 w ↦ sym (zeros-second c.args.n.now w.if-n-ge2.true (eqb-true _ _ (sym w.value-is ∙ c.if-n-eq48.true)))
  | else-n-ge2 w ↦ absurd (true-not-false c.if-n-eq48.true (w.value-is ∙ lt-leb _ _ w.if-n-ge2.false))
]

pub returns-else-n-eq48 : goal.returns-else-n-eq48
returns-else-n-eq48 c =
    c.if-n-eq48.false
    ∙ elim c.if-n-ge2.branch [
      | then-n-ge2 w ↦ sym (zeros-first c.args.n.now w.if-n-ge2.true (eqb-false _ _ (sym w.value-is ∙ c.if-n-eq48.false)))
      | else-n-ge2 w ↦ sym (begins-longer two_zeros c.args.n.now w.if-n-ge2.false)
    ]
