-- The bounds of a column, by the fields that state them.
use mathlib.Core.Path.{◌≡◌, refl, ap, ◌∙◌}
use Rattle.std.specs.Prelude.{Option, None, Some}
use Rattle.std.specs.Option.{option_zip}
use mathlib.Core.List.{List}
use Prim.Native.Nat.{ℕ}
use native.Mathlib.Omega.{arith}
use lib.ListN.{get_or}
use Rattle.rules.specs.Bytes.{Bytes, ◌>>=◌}
use Rattle.rules.specs.Manifests.{Bounds, in_column, bounds_of, both_there}
use Rattle.rules.specs.Json.Text.{Text}
use Rattle.rules.specs.Json.Values.{Member, object_of}
use Rattle.rules.specs.Json.Fields.{if_there, string_of}
use Rattle.field_names.specs.Kinds.{names_of}
use Rattle.field_objects.specs.Slots.{missing, Each, optional_in}
use Rattle.field_names.specs.declared.kinds.Kind.TheVariants.{Bounds as OfBounds}
use Rattle.field_objects.specs.declared.notes.Slot.{Slot}
use Rattle.field_objects.proofs.Slots.{slot-optional}
use Rattle.field_scalars.specs.Texts.{Read}
use Rattle.manifest_state.specs.Ranges.{optional_string_in, BoundIs, RangeIs, OneMissing}
use Rattle.field_scalars.proofs.Optionals.{there-some}

-- ---- one bound

module _ {o : Option (Option Text)} where
  pub bound-spelled : {x : Text} (t : Text) (p : ℕ) → o ≡ Some (Some x) → Read (string_of x) t p → BoundIs (o >>= if_there string_of) t (Some (Some p))
  bound-spelled t p e r = (r.spelled, there-some string_of e r.says)

-- ---- both

abbrev pub bounds_by : (min max : Option (Option Bytes)) → Option Bounds
bounds_by min max = min >>= (λ lo. max >>= (λ hi. Some (record { min = lo; max = hi })))

by-fields : (of : Option Text → Option (Option Bytes)) (min max : Option (Option Text))
    → (min >>= (λ a. of a >>= (λ lo. max >>= (λ b. of b >>= (λ hi. Some (record { min = lo; max = hi })))))) ≡ bounds_by (min >>= of) (max >>= of)
by-fields of None max = refl
by-fields of (Some a) None = refl
by-fields of (Some a) (Some b) = refl

pub bounds-by : (t : Text) (ms : List Member) (slots : List Slot) → object_of in_column t ≡ Some ms → Each t (names_of OfBounds) ms slots
    → bounds_of t ≡ bounds_by (optional_string_in t (get_or slots 0 missing)) (optional_string_in t (get_or slots 1 missing))
unfolding bounds_of names_of
bounds-by t ms slots e each =
    let lo = get_or slots 0 missing in
    let hi = get_or slots 1 missing in
    let p = slot-optional t "min" ms lo.seen lo.start lo.end (each 0 (omega arith)) in
    let q = slot-optional t "max" ms hi.seen hi.start hi.end (each 1 (omega arith)) in
    rw (bounds_of, e, p, q) (by-fields (if_there string_of) (optional_in t lo.seen lo.start lo.end) (optional_in t hi.seen hi.start hi.end))

module _ {o : Option Bounds} (min max : Option (Option Bytes)) (by_both : o ≡ bounds_by min max) where
  pub range-no-min : min ≡ None → o ≡ None
  range-no-min e = by_both ∙ ap (λ m. bounds_by m max) e

  pub range-no-max : max ≡ None → o ≡ None
  range-no-max e = by_both ∙ ap (bounds_by min) e ∙ go min
    where
      go : (m : Option (Option Bytes)) → bounds_by m None ≡ None
      go None = refl
      go (Some lo) = refl

  both-stated : (lo hi : Option Bytes) → min ≡ Some lo → max ≡ Some hi → o ≡ Some (record { min = lo; max = hi })
  both-stated lo hi e f = by_both ∙ ap (λ m. bounds_by m max) e ∙ ap (λ m. bounds_by (Some lo) m) f

  range-min-missing : (hi : Option Bytes) → min ≡ Some None → max ≡ Some hi → OneMissing o
  unfolding both_there
  range-min-missing hi e f = record { bounds = record { min = None; max = hi }; says = both-stated None hi e f; drops-none = λ c. refl }

  range-max-missing : (x : Bytes) → min ≡ Some (Some x) → max ≡ Some None → OneMissing o
  unfolding both_there
  range-max-missing x e f = record { bounds = record { min = Some x; max = None }; says = both-stated (Some x) None e f; drops-none = λ c. refl }

  -- both are stated, or one is missing
  pub range-zipped : (t : Text) (a b : Option ℕ) → BoundIs min t (Some a) → BoundIs max t (Some b) → RangeIs o t (Some (option_zip a b))
  range-zipped t None None u v = range-min-missing _ u v
  range-zipped t None (Some y) u v = range-min-missing _ u v.1
  range-zipped t (Some x) None u v = range-max-missing _ u.1 v
  range-zipped t (Some x) (Some y) u v = record { least = u.0; greatest = v.0; says = both-stated _ _ u.1 v.1 }

-- whatever they are, they are bounds
pub range-bounds : {o : Option Bounds} (t : Text) (r : Option (ℕ × ℕ)) → RangeIs o t (Some r) → (b : Bounds) × (o ≡ Some b)
range-bounds t None w = (w.bounds, w.says)
range-bounds t (Some (lo, hi)) w = (_, w.says)

pub bounds-none : (t : Text) → object_of in_column t ≡ None → bounds_of t ≡ None
unfolding bounds_of
bounds-none t e = rw (bounds_of, e)
