-- The twentieth digit: whether the number is at most 2^63 - 1 is known by then.
use mathlib.Core.Path.{◌≡◌, sym}
use Prim.Native.Nat.{◌-◌}
use native.Mathlib.Omega.{arith}
use Rattle.rules.specs.Bytes.{among}
use Rattle.rules.specs.Numbers.{is_digit}
use Rattle.file_names.proofs.Twenty.{last-other, last-above, last-number}
use Rattle.file_names.proofs.last_digit.Goals as goal

pub returns-then-not-is_ascii_digit : goal.returns-then-not-is_ascii_digit
unfolding is_digit among
returns-then-not-is_ascii_digit c = last-other c.args.n c.args.b (sym c.if-not-is_ascii_digit.ensures.value)

pub returns-then-n-gt-ROOM : goal.returns-then-n-gt-ROOM
unfolding is_digit among
returns-then-n-gt-ROOM c = last-above c.args.n c.args.b (sym c.if-not-is_ascii_digit.ensures.value) (omega arith)

pub returns-then-v-gt-MOST : goal.returns-then-v-gt-MOST
unfolding is_digit among
returns-then-v-gt-MOST c =
    let e : c.from.result ≡ c.args.b - 48 = c.from.ensures in
    last-above c.args.n c.args.b (sym c.if-not-is_ascii_digit.ensures.value) (omega (arith, c.if-v-gt-MOST.true))

pub returns : goal.returns
unfolding is_digit among
returns c =
    let e : c.from.result ≡ c.args.b - 48 = c.from.ensures in
    rw e (last-number c.args.n c.args.b (sym c.if-not-is_ascii_digit.ensures.value) (omega (arith, c.if-v-gt-MOST.false)))
