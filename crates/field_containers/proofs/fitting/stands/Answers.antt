-- `stands` meets its contract. As many bytes are alike as are asked for.
use mathlib.Core.Path.{sym, ◌∙◌}
use Prim.Native.Nat.{◌-◌, ◌≤◌}
use native.Mathlib.Omega.{arith}
use borrow.Author.Tests.{leb-true}
use lib.ListN.{length}
use Rattle.field_containers.proofs.Telling.{alike-again}
use Rattle.field_containers.proofs.fitting.stands.Goals as goal
use Rattle.field_containers.proofs.fitting.stands.Goals.{then-s-i-ge8, else-s-i-ge8}

pub returns-then-t-j-ge8 : goal.returns-then-t-j-ge8
returns-then-t-j-ge8 c =
    let room : 8 ≤ length c.args.t.now - c.args.j = elim c.if-s-i-ge8.branch [
      | then-s-i-ge8 w ↦ leb-true _ _ (sym w.value-is ∙ c.if-t-j-ge8.true)
      | else-s-i-ge8 w ↦ absurd (omega (arith, leb-true _ _ (sym w.value-is ∙ c.if-t-j-ge8.true)))
    ] in
    λ e. alike-again c.args.s.now c.args.t.now c.args.i c.args.end c.args.j _ c.requires.0 c.requires.1 (leb-true _ _ e)
    (omega (arith, c.common.ensures.0)) c.common.ensures.1
