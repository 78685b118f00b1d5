-- `short_digits`: what was read and the rest stand for what the text does; with i digits read it is below ten to the i.
use mathlib.Core.Path.{◌≡◌, sym, ap, ◌∙◌}
use Prim.Native.Nat.{ℕ, ◌+◌, ◌-◌, ◌*◌}
use lib.ListN.{drop, get_or}
use borrow.Author.Tests.{eqb-true, eqb-false}
use Rattle.rules.specs.Bytes.{among}
use Rattle.rules.specs.Numbers.{is_digit, decimal_from}
use Rattle.rules.proofs.Decimals.{decimal-at-digit, decimal-at-other, decimal-end, decimal-empty, decimal-start, grown, room-left}
use native.Mathlib.Omega.{arith}
use Rattle.bytes_values.proofs.short_digits.Goals as goal

pub returns-then-is_empty : goal.returns-then-is_empty
returns-then-is_empty c = sym (decimal-empty c.args.v.now (omega (arith, eqb-true _ _ (sym c.if-is_empty.ensures))))

pub loop-b-init : goal.loop-b-init
loop-b-init c = (omega arith, sym (decimal-start c.args.v.now (omega (arith, eqb-false _ _ (sym c.if-is_empty.ensures)))))

pub returns-then-not-is_ascii_digit : goal.returns-then-not-is_ascii_digit
unfolding is_digit among
returns-then-not-is_ascii_digit c =
    sym (decimal-at-other c.args.v.now c.loop-b.b-index c.loop-b.n c.loop-b-test.true (sym c.if-not-is_ascii_digit.ensures.value))
    ∙ c.loop-b.invariant.1

pub overflow_mul-n : goal.overflow_mul-n
overflow_mul-n c = omega (arith, room-left c.loop-b.n c.loop-b.b-index c.loop-b.invariant.0 (omega arith))

pub overflow_add-n : goal.overflow_add-n
overflow_add-n c =
    omega (arith, room-left c.loop-b.n c.loop-b.b-index c.loop-b.invariant.0 (omega arith), c.from.ensures, c.if-not-is_ascii_digit.ensures.cases)

pub loop-b-preserved : goal.loop-b-preserved
unfolding is_digit among
loop-b-preserved c =
    let w : c.from.result ≡ get_or c.args.v.now c.loop-b.b-index 0 - 48 = c.from.ensures in (
      grown c.loop-b.n c.from.result c.loop-b.b-index c.loop-b.invariant.0 (omega (arith, c.if-not-is_ascii_digit.ensures.cases)),
      ap (λ (d : ℕ). decimal_from (c.loop-b.n * 10 + d) (drop (c.loop-b.b-index + 1) c.args.v.now)) w
          ∙ sym (decimal-at-digit c.args.v.now c.loop-b.b-index c.loop-b.n c.loop-b-test.true (sym c.if-not-is_ascii_digit.ensures.value))
          ∙ c.loop-b.invariant.1,
    )

pub returns : goal.returns
returns c = sym (decimal-end c.args.v.now c.loop-b.b-index c.loop-b.n c.loop-b-test.false) ∙ c.loop-b.invariant.1
