-- The invariant: what has been passed is plain. What ends it is not plain, or the end.
use mathlib.Core.Path.{◌≡◌, sym, subst}
use native.Mathlib.Omega.{arith}
use lib.ListN.{length}
use Rattle.json_characters.specs.Runs.{Plains}
use Rattle.json_characters.proofs.Runs.{plains-none, plains-joined, plains-one}
use Rattle.json_characters.proofs.plain.skip_few.Goals as goal

pub loop-i-init : goal.loop-i-init
loop-i-init c = plains-none c.args.s.now c.args.at

pub returns-then-not-is_plain : goal.returns-then-not-is_plain
returns-then-not-is_plain c = (c.loop-i.auto.i, omega arith, c.loop-i.invariant, λ _. sym c.if-not-is_plain.ensures)

pub loop-i-preserved : goal.loop-i-preserved
loop-i-preserved c = plains-joined c.args.s.now _ _ _ c.loop-i.invariant (plains-one c.args.s.now _ (sym c.if-not-is_plain.ensures))

pub returns : goal.returns
returns c =
    let end : c.loop-i.i ≡ length c.args.s.now = omega arith in
    (c.requires, omega arith, subst (Plains c.args.s.now c.args.at) end c.loop-i.invariant, λ h. absurd (omega arith))
