-- The byte-wise view of a string's text, step by step: no bound is left in these laws.
use mathlib.Core.Path.{◌≡◌, refl, ap}
use Rattle.std.specs.Prelude.{Option, None, Some}
use mathlib.Core.List.{[], ◌∷◌, ◌++◌}
use Prim.Native.Nat.{ℕ, zero, suc, ◌+◌, ◌≤◌, ◌<◌}
use native.Mathlib.Omega.{arith}
use borrow.Author.Tests.{ne_eqb}
use lib.Dec.{eqb}
use lib.ListN.{length}
use Rattle.rules.specs.Bytes.{Bytes}
use Rattle.rules.specs.Json.Text.{Text}
use Rattle.rules.specs.Json.Strings.{utf8, escaped}
use Rattle.rules.proofs.Tests.{by}
use Rattle.rules.proofs.Json.Suffix.{reads-fewer}
use Rattle.rules.proofs.Json.StringReads.{escaped-reads}
use Rattle.json_strings.specs.Flat.{meant, flat_in, flat}

-- rests that agree below some length
meant-same : {f g : Text → Bytes} (t : Text) (o : Option (ℕ × Text)) → escaped t ≡ o
    → ((r : Text) → length r < length t → f r ≡ g r) → meant f o ≡ meant g o
unfolding meant
meant-same t None e h = refl
meant-same t (Some p) e h =
    let l : length p.1 + 1 ≤ length t = reads-fewer (escaped-reads p.0 t p.1 e) in
    ap (λ (x : Bytes). utf8 p.0 ++ x) (h p.1 (omega arith))

-- any bound above the length will do
pub flat_in-bound : (n m : ℕ) (t : Text) → length t < n → length t < m → flat_in n t ≡ flat_in m t
unfolding flat_in
flat_in-bound zero m t h k = absurd (omega arith)
flat_in-bound (suc n) zero t h k = absurd (omega arith)
flat_in-bound (suc n) (suc m) [] h k = refl
flat_in-bound (suc n) (suc m) (b ∷ t) h k = by (eqb b 0x22) (λ p. rw (flat_in, p)) (λ p. by (eqb b 0x5C)
    (λ q. rw (flat_in, p, q) (meant-same t (escaped t) refl (λ r l. flat_in-bound n m r (omega arith) (omega arith))))
    (λ q. rw (flat_in, p, q) (ap (λ (x : Bytes). b ∷ x) (flat_in-bound n m t (omega arith) (omega arith)))))

-- ---- by the first byte

pub flat-end : flat [] ≡ []
unfolding flat flat_in
flat-end = refl

pub flat-quote : (t : Text) → flat (0x22 ∷ t) ≡ []
unfolding flat flat_in
flat-quote t = refl

pub flat-itself : (b : ℕ) (t : Text) → (b ≡ 0x22 → ⊥) → (b ≡ 0x5C → ⊥) → flat (b ∷ t) ≡ b ∷ flat t
unfolding flat flat_in
flat-itself b t q e = rw (flat_in, ne_eqb b 0x22 q, ne_eqb b 0x5C e)

pub flat-none : (t : Text) → escaped t ≡ None → flat (0x5C ∷ t) ≡ []
unfolding flat flat_in meant
flat-none t e = rw (flat_in, e)

pub flat-escape : (t : Text) {c : ℕ} {r : Text} → escaped t ≡ Some (c, r) → flat (0x5C ∷ t) ≡ utf8 c ++ flat r
unfolding flat flat_in meant
flat-escape t {c} {r} e =
    let l : length r + 1 ≤ length t = reads-fewer (escaped-reads c t r e) in
    rw (flat_in, e) (ap (λ (x : Bytes). utf8 c ++ x) (flat_in-bound (suc (length t)) (suc (length r)) r (omega arith) (omega arith)))
