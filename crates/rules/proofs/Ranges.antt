-- Numbers within a range and without: the tests of the rules from what comparisons tell, and the other way.
use mathlib.Core.Path.{◌≡◌}
use mathlib.Core.Bool.{true, false}
use Prim.Native.Nat.{ℕ, ◌≤◌, ◌<◌}
use native.Mathlib.Omega.{arith}
use lib.Dec.{leb}
use borrow.Author.Tests.{le-leb, lt-leb, leb-true}
use Rattle.rules.specs.Bytes.{among}
use Rattle.rules.proofs.Tests.{and_left, and_right}

pub among-true : (lo hi n : ℕ) → among lo hi n ≡ true → (lo ≤ n) × (n ≤ hi)
unfolding among
among-true lo hi n e = (leb-true lo n (and_left (leb lo n) (leb n hi) e), leb-true n hi (and_right (leb lo n) (leb n hi) e))

pub among-within : (lo hi n : ℕ) → lo ≤ n → n ≤ hi → among lo hi n ≡ true
unfolding among
among-within lo hi n h k = rw (le-leb lo n h, le-leb n hi k)

pub among_below : (lo hi n : ℕ) → n < lo → among lo hi n ≡ false
unfolding among
among_below lo hi n h = rw (lt-leb lo n h)

pub among-above : (lo hi n : ℕ) → lo ≤ n → hi < n → among lo hi n ≡ false
unfolding among
among-above lo hi n l h = rw (le-leb lo n l, lt-leb n hi h)

-- a number that is not the first of a range lies behind it
pub next-above : (k n : ℕ) → k ≤ n → (n ≡ k → ⊥) → k < n
next-above k n h d = omega arith
