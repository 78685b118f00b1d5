-- Numbers that lie in the bundle byte by byte, the lowest first.
use mathlib.Core.Path.{◌≡◌, sym, ◌∙◌}
use Prim.Native.Nat.{ℕ, suc, ◌+◌, ◌*◌, ◌≤◌, ◌<◌}
use native.Mathlib.Omega.{arith}
use lib.ListN.{length, drop, get_or}
use lib.Seq.{drop-drop}
use Rattle.facts.proofs.Lists.{drop_here}
use Rattle.rules.specs.Bytes.{Bytes}
use Rattle.rules.specs.Numbers.{little}
use Rattle.rules.specs.Bundle.{field}

-- a field of what lies from e on
pub field-drop : (e at m : ℕ) (s : Bytes) → field at m (drop e s) ≡ field (e + at) m s
unfolding field
field-drop e at m s = rw (drop-drop at e s)

module _ (s : Bytes) where
  little-more : (at next m : ℕ) → at < length s → next ≡ at + 1 → little (field at (suc m) s) ≡ get_or s at 0 + 256 * little (field next m s)
  unfolding field little
  little-more at next m h e = rw (e, drop_here s at 0 h)

  -- four bytes, and the m behind them
  little-four-more : (at m : ℕ) → at + 4 ≤ length s
      → little (field at (suc (suc (suc (suc m)))) s)
      ≡ get_or s at 0 + 256 * (get_or s (at + 1) 0 + 256 * (get_or s (at + 2) 0 + 256 * (get_or s (at + 3) 0 + 256 * little (field (at + 4) m s))))
  little-four-more at m h =
      let a = little-more at (at + 1) (suc (suc (suc m))) (omega arith) (omega arith) in
      let b = little-more (at + 1) (at + 2) (suc (suc m)) (omega arith) (omega arith) in
      let c = little-more (at + 2) (at + 3) (suc m) (omega arith) (omega arith) in
      let d = little-more (at + 3) (at + 4) m (omega arith) (omega arith) in
      rw (a, b, c, d)

  little-four : (at : ℕ) → at + 4 ≤ length s
      → little (field at 4 s) ≡ get_or s at 0 + 256 * (get_or s (at + 1) 0 + 256 * (get_or s (at + 2) 0 + 256 * get_or s (at + 3) 0))
  unfolding field little
  little-four at h = little-four-more at 0 h ∙ omega arith

  -- the four bytes, the lowest first, make the number
  pub four-little : (at a b c d : ℕ) → at + 4 ≤ length s
      → a ≡ get_or s at 0 → b ≡ get_or s (at + 1) 0 → c ≡ get_or s (at + 2) 0 → d ≡ get_or s (at + 3) 0
      → a + 256 * (b + 256 * (c + 256 * d)) ≡ little (field at 4 s)
  four-little at a b c d h ea eb ec ed = rw (ea, eb, ec, ed) (sym (little-four at h))

  pub little-eight : (at : ℕ) → at + 8 ≤ length s → little (field at 8 s) ≡ little (field at 4 s) + 4294967296 * little (field (at + 4) 4 s)
  little-eight at h =
      let all = little-four-more at 4 (omega arith) in
      let low = little-four at (omega arith) in
      omega arith
