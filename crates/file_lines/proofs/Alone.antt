-- A line ends in one place: the first line feed, or the end.
use mathlib.Core.Path.{◌≡◌}
use Prim.Native.Nat.{ℕ, ◌≤◌, ◌<◌}
use native.Mathlib.Omega.{arith}
use lib.Dec.{ltb}
use borrow.Author.Tests.{ltb-true, ltb-false}
use Rattle.rules.specs.Bytes.{Bytes}
use Rattle.rules.proofs.Tests.{by}
use Rattle.file_lines.specs.Ends.{EndsLine}

module _ (s : Bytes) (from to : ℕ) where
  not-before : (r q : ℕ) → EndsLine s from to r → EndsLine s from to q → q ≤ r
  not-before r q h k = by (ltb r q) (λ t. absurd (met (ltb-true r q t))) (λ u. ltb-false r q u)
    where
      met : r < q → ⊥
      met l = k.before r h.behind l (h.feed (omega (arith, k.within)))

  pub ends-alone : (r q : ℕ) → EndsLine s from to r → EndsLine s from to q → r ≡ q
  ends-alone r q h k = omega (arith, not-before r q h k, not-before q r k h)
