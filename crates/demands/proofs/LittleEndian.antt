-- Numbers in bytes, the lowest first: they are read as they are written.
use mathlib.Core.Path.{◌≡◌, refl, sym, ◌∙◌, ap, subst}
use mathlib.Core.List.{[], ◌∷◌}
use Prim.Native.Nat.{ℕ, zero, suc, ◌+◌, ◌*◌, ◌/◌, ◌%◌, ◌≤◌, ◌<◌}
use native.Mathlib.Omega.{arith}
use lib.ListN.{length}
use Rattle.facts.specs.Lists.{All}
use Rattle.rules.specs.Bytes.{Bytes}
use Rattle.rules.specs.Numbers.{little}
use Rattle.rules.specs.Samples.{little_of}
use Rattle.demands.specs.Removed.{AreBytes}

-- n has at most k bytes
abbrev pub Fits : (k n : ℕ) → Type 0
Fits zero n = n ≡ 0
Fits (suc k) n = Fits k (n / 256)

pub length-little_of : (k n : ℕ) → length (little_of k n) ≡ k
unfolding little_of
length-little_of zero n = refl
length-little_of (suc k) n = ap suc (length-little_of k (n / 256))

pub little-little_of : (k n : ℕ) → Fits k n → little (little_of k n) ≡ n
unfolding little little_of
little-little_of zero n f = sym f
little-little_of (suc k) n f = ap (λ (m : ℕ). n % 256 + 256 * m) (little-little_of k (n / 256) f) ∙ whole
  where
    whole : n % 256 + 256 * (n / 256) ≡ n
    whole = omega arith

pub little_of-bytes : (k n : ℕ) → AreBytes (little_of k n)
unfolding little_of All
little_of-bytes zero n = tt
little_of-bytes (suc k) n = (omega arith, little_of-bytes k (n / 256))

pub fits-little : (bs : Bytes) → AreBytes bs → Fits (length bs) (little bs)
unfolding little All
fits-little [] h = refl
fits-little (b ∷ bs) h = subst (Fits (length bs)) (sym (over b (little bs) h.0)) (fits-little bs h.1)
  where
    over : (b n : ℕ) → b < 256 → (b + 256 * n) / 256 ≡ n
    over b n l = omega arith

pub fits-4 : (n : ℕ) → n ≤ 1_048_576 → Fits 4 n
fits-4 n l = omega arith
