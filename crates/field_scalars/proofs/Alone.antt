-- A string and a path in their places have one answer: the place of the text fixes that of the string. So does a field that may be missing,
-- by its slot. Whether there is an answer is told in one way.
use mathlib.Core.Path.{◌≡◌, refl, sym, ap, ◌∙◌}
use mathlib.Core.Bool.{Bool, true, false}
use Rattle.std.specs.Prelude.{Option, None, Some}
use Prim.Native.Nat.{ℕ}
use lib.ListN.{length, drop}
use Rattle.rules.specs.Bytes.{Bytes}
use Rattle.rules.specs.Json.Text.{Text}
use Rattle.rules.proofs.Tests.{apart}
use Rattle.rules.proofs.Json.Suffix.{answered-none}
use Rattle.json_strings.specs.Decoded.{decoded}
use Rattle.field_objects.specs.declared.notes.Slot.{Slot}
use Rattle.field_scalars.specs.Optionals.{between, OptionalIs}
use Rattle.field_scalars.specs.Texts.{Told, StringIs, PathIs}

module _ (o : Option Bytes) (s : Text) (v : ℕ) where
  pub string-alone : (r q : Option (ℕ × ℕ)) → StringIs o s v r → StringIs o s v q → r ≡ q
  string-alone (Some (p, n)) (Some (t, m)) a b =
      let same_place : p ≡ t = a.2 ∙ sym b.2 in
      let same_size : n ≡ m = a.1 ∙ ap (λ (i : ℕ). length (decoded (drop i s))) same_place ∙ sym b.1 in
      ap (λ (i : ℕ). (Some (i, n))) same_place ∙ ap (λ (m : ℕ). Some (t, m)) same_size
  string-alone (Some (p, n)) None a b = answered-none a.0.says b
  string-alone None (Some (t, m)) a b = answered-none b.0.says a
  string-alone None None a b = refl

  pub path-alone : (r q : Option ℕ) → PathIs o s v r → PathIs o s v q → r ≡ q
  path-alone (Some p) (Some t) a b = ap Some (a.1 ∙ sym b.1)
  path-alone (Some p) None a b = answered-none a.0.says b
  path-alone None (Some t) a b = answered-none b.0.says a
  path-alone None None a b = refl

pub told-alone : {A : Type 0} (o : Option A) (r q : Bool) → Told o r → Told o q → r ≡ q
told-alone o true true h k = refl
told-alone o true false h k = answered-none h.1 k
told-alone o false true h k = answered-none k.1 h
told-alone o false false h k = refl

pub optional-alone : (o : Option (Option Text)) (t : Text) (x : Slot) (r q : Option (Option (ℕ × ℕ))) → OptionalIs o t x r → OptionalIs o t x q → r ≡ q
optional-alone o t x (Some (Some (v, e))) (Some (Some (u, f))) h k =
    ap (λ (i : ℕ). Some (Some (i, e))) (h.begins ∙ sym k.begins) ∙ ap (λ (m : ℕ). Some (Some (u, m))) (h.ends ∙ sym k.ends)
optional-alone o t x (Some (Some (v, e))) (Some None) h k = let f : Some (Some (between t v e)) ≡ Some None = sym h.says ∙ k in apart (cc)
optional-alone o t x (Some (Some (v, e))) None h k = answered-none h.says k
optional-alone o t x (Some None) (Some (Some (u, f))) h k = let g : Some (Some (between t u f)) ≡ Some None = sym k.says ∙ h in apart (cc)
optional-alone o t x (Some None) (Some None) h k = refl
optional-alone o t x (Some None) None h k = answered-none h k
optional-alone o t x None (Some (Some (u, f))) h k = answered-none k.says h
optional-alone o t x None (Some None) h k = answered-none k h
optional-alone o t x None None h k = refl
