-- A field that may be missing or null: what is made of its value.
use mathlib.Core.Path.{◌≡◌, ap, ◌∙◌}
use mathlib.Core.Bool.{true, false}
use Rattle.std.specs.Prelude.{Option, None, Some}
use mathlib.Core.List.{[], ◌∷◌}
use Prim.Native.Nat.{ℕ}
use Rattle.rules.specs.Bytes.{◌>>=◌}
use Rattle.rules.specs.Json.Text.{Text}
use Rattle.rules.specs.Json.Fields.{is_null, sole_or_none, if_there}
use Rattle.field_objects.specs.Slots.{optional_in}
use Rattle.field_objects.specs.declared.notes.Slot.{Slot}
use Rattle.field_scalars.specs.Optionals.{optional_of, between}

sole-null : (x : Text) → is_null x ≡ true → sole_or_none (x ∷ []) ≡ Some None
unfolding sole_or_none
sole-null x n = rw (sole_or_none, n)

sole-there : (x : Text) → is_null x ≡ false → sole_or_none (x ∷ []) ≡ Some (Some x)
unfolding sole_or_none
sole-there x n = rw (sole_or_none, n)

-- ---- by its slot

module _ (t : Text) (x : Slot) (p : x.seen ≡ 1) where
  slot-single : optional_of t x ≡ sole_or_none (between t x.start x.end ∷ [])
  slot-single = ap (λ (n : ℕ). optional_in t n x.start x.end) p

  pub slot-null : is_null (between t x.start x.end) ≡ true → optional_of t x ≡ Some None
  slot-null n = slot-single ∙ sole-null (between t x.start x.end) n

  pub slot-there : is_null (between t x.start x.end) ≡ false → optional_of t x ≡ Some (Some (between t x.start x.end))
  slot-there n = slot-single ∙ sole-there (between t x.start x.end) n

-- ---- what is made of its value

module _ {A : Type 0} (of : Text → Option A) {o : Option (Option Text)} where
  pub there-twice : o ≡ None → (o >>= if_there of) ≡ None
  there-twice e = ap (λ p. p >>= if_there of) e

  pub there-missing : o ≡ Some None → (o >>= if_there of) ≡ Some None
  unfolding if_there
  there-missing e = ap (λ p. p >>= if_there of) e

  pub there-none : {x : Text} → o ≡ Some (Some x) → of x ≡ None → (o >>= if_there of) ≡ None
  unfolding if_there
  there-none e f = ap (λ p. p >>= if_there of) e ∙ ap (λ p. p >>= (λ y. Some (Some y))) f

  pub there-some : {x : Text} {y : A} → o ≡ Some (Some x) → of x ≡ Some y → (o >>= if_there of) ≡ Some (Some y)
  unfolding if_there
  there-some e f = ap (λ p. p >>= if_there of) e ∙ ap (λ p. p >>= (λ y. Some (Some y))) f
