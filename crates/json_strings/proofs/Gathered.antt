-- Bytes of a string that were gathered, in front of those to come.
use mathlib.Core.Path.{◌≡◌, sym, ap, ◌∙◌}
use mathlib.Core.List.{[], ◌∷◌, ◌++◌, append-nil, append_assoc}
use Prim.Native.Nat.{ℕ, ◌+◌, ◌≤◌, ◌<◌}
use native.Mathlib.Numerals.{add-one}
use native.Mathlib.Omega.{arith}
use lib.ListN.{length, take, set, length-append}
use lib.Seq.{take-suc-set, length-take-le}
use Rattle.rules.specs.Bytes.{Bytes}

-- the bytes x are the first n of l and then those to come
pub gathered-more : (l x y z : Bytes) (n b : ℕ) → n < length l → x ≡ take n l ++ y → y ≡ b ∷ z → x ≡ take (n + 1) (set l n b) ++ z
gathered-more l x y z n b h e f =
    e ∙ rw (f, add-one, take-suc-set l n b h) (sym (append_assoc (take n l) (b ∷ []) z))

pub gathered-all : (l x y : Bytes) (n : ℕ) → x ≡ take n l ++ y → y ≡ [] → x ≡ take n l
gathered-all l x y n e f = e ∙ rw f (append-nil (take n l))

pub gathered-long : (l x y : Bytes) (n : ℕ) → n ≤ length l → x ≡ take n l ++ y → n ≤ length x
gathered-long l x y n h e = omega (arith, ap length e, length-append (take n l) y, length-take-le n l h)
