-- `code_unit` meets its contract. The digits from `at` up to i stand for u.
use Rattle.std.specs.Prelude.{Some}
use mathlib.Core.Path.{sym, ap, ◌∙◌}
use native.Mathlib.Omega.{arith}
use Rattle.json_characters.proofs.Units.{unit-short, spelt-start, spelt-room, spelt-more, spelt-other, spelt-end}
use Rattle.json_characters.proofs.escapes.code_unit.Goals as goal

pub returns-then-s-at-lt4 : goal.returns-then-s-at-lt4
returns-then-s-at-lt4 c = unit-short c.args.s.now c.args.at c.requires (omega arith)

pub loop-i-init : goal.loop-i-init
loop-i-init c = spelt-start c.args.s.now c.args.at

pub returns-in_err-d : goal.returns-in_err-d
returns-in_err-d c = rw c.from_residual.ensures (spelt-other c.loop-i.invariant c.loop-i-test.true (omega arith) c.in_err-d.ensures)

pub overflow_mul-u : goal.overflow_mul-u
overflow_mul-u c = omega (arith, spelt-room c.loop-i.invariant c.loop-i-test.true 0 (omega arith))

pub overflow_add-u : goal.overflow_add-u
overflow_add-u c = omega (arith, c.from.ensures, spelt-room c.loop-i.invariant c.loop-i-test.true _ c.in_ok-d.ensures.1)

pub loop-i-preserved : goal.loop-i-preserved
loop-i-preserved c =
    let e = c.in_ok-d.ensures in
    spelt-more c.loop-i.invariant c.loop-i-test.true (omega arith) (e.0 ∙ ap Some (sym c.from.ensures)) (rw c.from.ensures e.1)

pub returns : goal.returns
returns c =
    let done = spelt-end c.loop-i.invariant c.loop-i-test.false in
    (done.0, omega arith, omega arith, done.1)
