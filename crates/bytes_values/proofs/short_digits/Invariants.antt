-- `short_digits`: what was read and the rest stand for what the text does; with i digits read it is below ten to the i.
use mathlib.Core.Path.{◌≡◌}
use Prim.Native.Nat.{◌<◌, ◌^◌}
use lib.ListN.{drop}
use Rattle.rules.specs.Numbers.{decimal, decimal_from}
use Rattle.bytes_values.proofs.short_digits.Given as goal

abbrev pub invariant-loop-b : goal.invariant-loop-b
invariant-loop-b l = (l.n < 10 ^ l.b-index) × (decimal_from l.n (drop l.b-index l.v) ≡ decimal l.v)
