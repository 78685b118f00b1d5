-- Behind its first byte a name fits just where what is left of it does.
use native.Mathlib.Omega.{arith}
use mathlib.Core.Path.{sym, ◌∙◌}
use Rattle.file_bundle.proofs.Padding.{name-none, name-some, name-more, name-other, name-end}
use Rattle.file_bundle.proofs.name_fits.Goals as goal

pub returns-then-not-visible : goal.returns-then-not-visible
returns-then-not-visible c =
    sym (name-none c.args.p.now c.requires (sym c.visible.ensures ∙ c.if-not-visible.true))

pub loop-i-init : goal.loop-i-init
loop-i-init c =
    name-some c.args.p.now c.requires (sym c.visible.ensures ∙ c.if-not-visible.false)

pub returns-then-not-visible-2 : goal.returns-then-not-visible-2
returns-then-not-visible-2 c =
    c.zeros_from.ensures
    ∙ sym (c.loop-i.invariant
    ∙ name-other c.args.p.now c.loop-i.i (omega arith)
    (sym c.visible-in-loop-i.ensures ∙ c.if-not-visible-2.true))

pub loop-i-preserved : goal.loop-i-preserved
loop-i-preserved c =
    c.loop-i.invariant
    ∙ name-more c.args.p.now c.loop-i.i (omega arith)
    (sym c.visible-in-loop-i.ensures ∙ c.if-not-visible-2.false)

pub returns : goal.returns
returns c = sym (c.loop-i.invariant ∙ name-end c.args.p.now c.loop-i.i (omega arith))
