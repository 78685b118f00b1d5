-- Plain bytes of a string: neither quote nor backslash, and all others of ASCII from the space on.
use mathlib.Core.Path.{◌≡◌, refl, sym, ap, ◌∙◌}
use mathlib.Core.Bool.{Bool, true, false, false≢true}
use Prim.Native.Nat.{ℕ, ◌≤◌, ◌<◌}
use native.Mathlib.Omega.{arith}
use lib.Dec.{leb}
use borrow.Author.Tests.{leb-true, leb-false}
use Rattle.rules.specs.Bytes.{among, first}
use Rattle.rules.specs.Json.Strings.{is_plain}
use Rattle.rules.proofs.Ranges.{among-within, among-above, next-above}

plain_other : {b k : ℕ} → is_plain b ≡ true → is_plain k ≡ false → b ≡ k → ⊥
plain_other p f e = false≢true (sym f ∙ ap is_plain (sym e) ∙ p)

pub plain-quote : {b : ℕ} → is_plain b ≡ true → b ≡ 0x22 → ⊥
unfolding is_plain first among
plain-quote p = plain_other p refl

pub plain-backslash : {b : ℕ} → is_plain b ≡ true → b ≡ 0x5C → ⊥
unfolding is_plain first among
plain-backslash p = plain_other p refl

pub plain_of : (b : ℕ) → 0x20 ≤ b → b ≤ 0x7F → (b ≡ 0x22 → ⊥) → (b ≡ 0x5C → ⊥) → is_plain b ≡ true
unfolding is_plain first
plain_of b l h q e = go (leb b 0x21) (leb b 0x5B) refl refl
  where
    go : (x y : Bool) → leb b 0x21 ≡ x → leb b 0x5B ≡ y → is_plain b ≡ true
    go true y p r = rw (is_plain, first, among-within 0x20 0x21 b l (leb-true b 0x21 p))
    go false true p r =
        let k : 0x21 < b = leb-false b 0x21 p in
        rw (
          is_plain,
          first,
          among-above 0x20 0x21 b l k,
          among-within 0x23 0x5B b (next-above 0x22 b k q) (leb-true b 0x5B r),
        )
    go false false p r =
        let k : 0x5B < b = leb-false b 0x5B r in
        rw (
          is_plain,
          first,
          among-above 0x20 0x21 b l (leb-false b 0x21 p),
          among-above 0x23 0x5B b (omega arith) k,
          among-within 0x5D 0x7F b (next-above 0x5C b k e) h,
        )
