-- `low_half` meets its contract. The escape, its code unit, and that this is a low surrogate; the numbers stay below 0x110000.
use mathlib.Core.Bool.{false}
use mathlib.Core.Path.{◌≡◌}
use native.Mathlib.Nat.{le_trans}
use native.Mathlib.Omega.{arith}
use Rattle.rules.specs.Bytes.{among, ascii}
use Rattle.rules.specs.Json.Strings.{paired}
use Rattle.rules.proofs.Ranges.{among-within}
use Rattle.json_characters.proofs.escapes.low_half.Goals as goal

pub returns-in_err-i : goal.returns-in_err-i
unfolding paired ascii
returns-in_err-i c = rw c.from_residual.ensures (rw c.in_err-i.ensures)

pub returns-in_err-low : goal.returns-in_err-low
unfolding paired ascii
returns-in_err-low c = rw c.from_residual-in_err-low.ensures (rw (c.in_ok-i.ensures.0, c.in_err-low.ensures))

pub returns-then-low-lt-LOW : goal.returns-then-low-lt-LOW
unfolding paired ascii among
returns-then-low-lt-LOW c =
    let other : among 0xDC00 0xDFFF c.in_ok-low.low ≡ false = grind arith in
    rw (c.in_ok-i.ensures.0, c.in_ok-low.ensures.0, other)

pub returns : goal.returns
unfolding paired ascii
returns c =
    let e = c.in_ok-i.ensures in
    let f = c.in_ok-low.ensures in
    (rw (e.0, f.0, among-within 0xDC00 0xDFFF c.in_ok-low.low c.if-low-lt-LOW.false (omega arith)), le_trans e.1 f.1, f.2, omega arith)
