-- Bytes met one by one with the bytes of a key, as a reader meets them.
use mathlib.Core.Path.{◌≡◌, ap}
use mathlib.Core.Bool.{true, false}
use mathlib.Core.List.{[], ◌∷◌}
use Prim.Native.Nat.{ℕ, ◌+◌, ◌≤◌, ◌<◌}
use lib.ListN.{length, drop, get_or, drop_of_length-le}
use Rattle.facts.proofs.Lists.{drop_here}
use Rattle.rules.specs.Bytes.{Bytes, same}
use Rattle.rules.proofs.Order.{same-cons, same-cons-ne}

pub same_none : {x : Bytes} → x ≡ [] → same x [] ≡ true
unfolding same
same_none e = rw e

pub same_some : {x y : Bytes} {b : ℕ} → x ≡ b ∷ y → same x [] ≡ false
unfolding same
same_some e = rw e

module _ (x key : Bytes) (k : ℕ) where
  pub same-past : length key ≤ k → same x (drop k key) ≡ same x []
  same-past h = ap (same x) (drop_of_length-le key h)

  module _ (h : k < length key) where
    pub same_ends : x ≡ [] → same x (drop k key) ≡ false
    unfolding same
    same_ends e = rw (e, drop_here key k 0 h)

    module _ {b : ℕ} {y : Bytes} (e : x ≡ b ∷ y) where
      pub same_next : b ≡ get_or key k 0 → same x (drop k key) ≡ same y (drop (k + 1) key)
      same_next q = rw (e, drop_here key k 0 h) (same-cons b (get_or key k 0) y (drop (k + 1) key) q)

      pub same_differs : (b ≡ get_or key k 0 → ⊥) → same x (drop k key) ≡ false
      same_differs q = rw (e, drop_here key k 0 h) (same-cons-ne b (get_or key k 0) y (drop (k + 1) key) q)
