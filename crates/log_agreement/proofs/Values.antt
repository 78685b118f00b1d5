-- One value of partition values with another: strings by their bytes, null with null alone.
use mathlib.Core.Path.{◌≡◌, refl, sym, ap, ◌∙◌}
use mathlib.Core.Bool.{Bool, true, false}
use Rattle.std.specs.Prelude.{Option, None, Some}
use mathlib.Core.List.{List, [], ◌∷◌}
use Rattle.rules.specs.Bytes.{Bytes, ◌>>=◌, same}
use Rattle.rules.specs.Json.Text.{Text}
use Rattle.rules.specs.Json.Values.{Member}
use Rattle.rules.specs.Json.Fields.{string_of, string_or_null}
use Rattle.rules.specs.Actions.{Pairs, pairs}
use Rattle.rules.specs.Picking.{value_at}
use Rattle.rules.specs.Agreement.{agree_value, agree_found}
use Rattle.rules.proofs.Json.Fields.{string_or_null-string, string_or_null-no-string}
use Rattle.rules.proofs.Json.Suffix.{some_same, answered-none}
use Rattle.rules.proofs.Pairs.{pairs-cons}
use Rattle.field_objects.specs.Lookup.{lookup}
use Rattle.field_containers.proofs.Pairs.{value_at-lookup}

-- ---- two values

module _ (v w : Text) {x y : Option Bytes} (f : string_or_null v ≡ Some x) (g : string_or_null w ≡ Some y) where
  pub strings-agree : {a b : Bytes} → string_of v ≡ Some a → string_of w ≡ Some b → agree_value x y ≡ same a b
  unfolding agree_value
  strings-agree d e = let p : x ≡ _ = string_or_null-string v f d in let q : y ≡ _ = string_or_null-string w g e in rw (p, q)

  pub string-null-differ : {a : Bytes} → string_of v ≡ Some a → string_of w ≡ None → agree_value x y ≡ false
  unfolding agree_value
  string-null-differ d e = let p : x ≡ _ = string_or_null-string v f d in let q : y ≡ None = string_or_null-no-string w g e in rw (p, q)

  pub null-string-differ : {b : Bytes} → string_of v ≡ None → string_of w ≡ Some b → agree_value x y ≡ false
  unfolding agree_value
  null-string-differ d e = let p : x ≡ None = string_or_null-no-string v f d in let q : y ≡ _ = string_or_null-string w g e in rw (p, q)

  pub nulls-agree : string_of v ≡ None → string_of w ≡ None → agree_value x y ≡ true
  unfolding agree_value
  nulls-agree d e = let p : x ≡ None = string_or_null-no-string v f d in let q : y ≡ None = string_or_null-no-string w g e in rw (p, q)

-- ---- a value and that of the same column elsewhere

-- what is found is a string or null
found-stated : (column : Bytes) (ms : List Member) {qs : Pairs} {v : Text} → pairs ms ≡ Some qs → lookup column ms ≡ Some v
    → (y : Option Bytes) × (string_or_null v ≡ Some y)
unfolding lookup
found-stated column [] e f = answered-none f refl
found-stated column (m ∷ ms) {v = v} e f =
    let (x, qs, g, h, k) = pairs-cons m ms e in
    go (x, g) (λ l. found-stated column ms h l) (same column m.0) f
  where
    go : (x : Option Bytes) × (string_or_null m.1 ≡ Some x) → (lookup column ms ≡ Some v → (y : Option Bytes) × (string_or_null v ≡ Some y)) → (b : Bool)
        → elim b [ true ↦ Some m.1 | false ↦ lookup column ms ] ≡ Some v → (y : Option Bytes) × (string_or_null v ≡ Some y)
    go here later true l = (here.0, ap string_or_null (sym (some_same l)) ∙ here.1)
    go here later false l = later l

module _ (column : Bytes) (x : Option Bytes) (ms : List Member) {qs : Pairs} (e : pairs ms ≡ Some qs) where
  pub missing-differs : lookup column ms ≡ None → agree_found (Some x) (value_at column qs) ≡ false
  unfolding agree_found
  missing-differs f = ap (agree_found (Some x)) (value_at-lookup column ms e ∙ ap (λ o. o >>= string_or_null) f)

  -- r says whether x agrees with the value that is found
  pub found-agrees : (v : Text) → lookup column ms ≡ Some v → {r : Bool} → ((y : Option Bytes) → string_or_null v ≡ Some y → r ≡ agree_value x y)
      → r ≡ agree_found (Some x) (value_at column qs)
  unfolding agree_found
  found-agrees v f h =
      let (y, g) = found-stated column ms e f in
      h y g ∙ sym (ap (agree_found (Some x)) (value_at-lookup column ms e ∙ ap (λ o. o >>= string_or_null) f ∙ g))
