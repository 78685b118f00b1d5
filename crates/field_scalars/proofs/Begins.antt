-- The text of a value from v to e by its first byte: what reads it behind that byte reads it in its place.
use mathlib.Core.Path.{◌≡◌, refl, sym, ap, ◌∙◌}
use Rattle.std.specs.Prelude.{None, Some}
use mathlib.Core.List.{[], ◌∷◌, ◌++◌}
use Prim.Native.Nat.{ℕ, zero, suc, ◌+◌, ◌-◌, ◌≤◌}
use native.Mathlib.Omega.{arith}
use borrow.Author.Tests.{eq-eqb}
use lib.ListN.{length, take, drop, length-drop}
use Rattle.facts.specs.Parts.{part}
use Rattle.facts.proofs.Parts.{part-rest}
use Rattle.rules.specs.Json.Text.{Text, Taker, behind, byte}
use Rattle.rules.specs.Json.Values.{value}
use Rattle.rules.proofs.Json.Suffix.{answered-none}
use Rattle.rules.proofs.Json.TextReads.{byte-same}
use Rattle.rules.proofs.Json.Steps.{value-end}
use Rattle.rules.proofs.Json.Shadows.{behind-some}
use Rattle.rules.proofs.Json.Places.{text-cons}
use Rattle.field_scalars.proofs.Strings.{byte-text}

-- the byte at v, and what stands behind it
pub byte_next : (s : Text) (v i c : ℕ) → v ≤ length s → i ≤ length s → byte c (drop v s) ≡ Some (drop i s) → i ≡ v + 1
byte_next s v i c h k b =
    let m : length s - v ≡ suc (length s - i) = sym (length-drop v s) ∙ ap length (byte-text c (drop v s) b) ∙ ap suc (length-drop i s) in
    omega arith

module _ (d : ℕ) (s : Text) (v e : ℕ) (h : v ≤ e) (k : e ≤ length s) (w : value d (take (e - v) (drop v s)) ≡ Some []) where
  pub value-further : v + 1 ≤ e
  value-further = go (e - v) refl
    where
      go : (n : ℕ) → e - v ≡ n → v + 1 ≤ e
      go zero p = answered-none (sym (ap (λ (m : ℕ). value d (take m (drop v s))) p) ∙ w) (value-end d)
      go (suc n) p = omega arith

  -- it begins with c, and `inside` reads it from there
  module _ {A : Type 0} (c : ℕ) (inside : Taker A) (opens : (t : Text) → value d (c ∷ t) ≡ behind (inside t))
      (extends : (t u : Text) (a : A) (r : Text) → inside t ≡ Some (a, r) → inside (t ++ u) ≡ Some (a, r ++ u))
      (i : ℕ)
      (l : i ≤ length s)
      (b : byte c (drop v s) ≡ Some (drop i s))
    where
      pub begins-here : drop v s ≡ c ∷ drop (v + 1) s
      begins-here = byte-text c (drop v s) b ∙ ap (λ (j : ℕ). c ∷ drop j s) (byte_next s v i c (omega arith) l b)

      pub inside-here : (a : A) × (inside (drop (v + 1) s) ≡ Some (a, drop e s))
      unfolding part
      inside-here =
          let y : Text = take (e - (v + 1)) (drop (v + 1) s) in
          let more : v + 1 ≤ e = value-further in
          let (a, f) = behind-some (inside y) (sym (opens y) ∙ sym (ap (value d) (text-cons s v e c begins-here more k)) ∙ w) in
          (a, sym (ap inside (part-rest s (v + 1) e more)) ∙ extends y (drop e s) a [] f)

  -- it begins with another byte
  pub begins-other : (c : ℕ) → byte c (drop v s) ≡ None → (b : ℕ) × (y : Text) × (b ≡ c → ⊥) × (take (e - v) (drop v s) ≡ b ∷ y)
  unfolding byte
  begins-other c n = go (drop v s) refl
    where
      go : (t : Text) → drop v s ≡ t → (b : ℕ) × (y : Text) × (b ≡ c → ⊥) × (take (e - v) (drop v s) ≡ b ∷ y)
      go [] p =
          let z : length s - v ≡ 0 = sym (length-drop v s) ∙ ap length p in
          let f : v + 1 ≤ e = value-further in
          absurd (omega arith)
      go (b ∷ t) p =
          let f : v + 1 ≤ e = value-further in
          let m : e - v ≡ suc (e - (v + 1)) = omega arith in (
            b,
            take (e - (v + 1)) t,
            (λ q. answered-none (byte-same c b t (eq-eqb b c q)) (sym (ap (byte c) p) ∙ n)),
            ap (take (e - v)) p ∙ ap (λ (j : ℕ). take j (b ∷ t)) m,
          )
