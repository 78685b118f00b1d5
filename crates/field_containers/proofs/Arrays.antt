-- Arrays of strings by the text of their field: the features of a protocol, and the partition columns.
use mathlib.Core.Path.{◌≡◌, refl, sym, ap, ◌∙◌}
use mathlib.Core.Bool.{Bool, true, false}
use Rattle.std.specs.Prelude.{Option, None, Some}
use mathlib.Core.List.{List, []}
use Prim.Native.Nat.{ℕ, zero, suc, ◌+◌, ◌-◌, ◌≤◌, ◌<◌}
use native.Mathlib.Omega.{arith}
use borrow.Author.Tests.{lt-leb, le-leb}
use lib.Dec.{leb}
use lib.ListN.{length, take, drop}
use Rattle.rules.specs.Actions.{in_action, in_field, or_empty, most_columns}
use Rattle.rules.specs.Bytes.{Bytes, ◌>>=◌, guard, distinct, all_among}
use Rattle.rules.specs.Json.Text.{Text, byte}
use Rattle.rules.specs.Json.Values.{elements, value, array_of}
use Rattle.rules.specs.Json.Fields.{if_there, strings, strings_of}
use Rattle.rules.proofs.Json.Suffix.{value_same}
use Rattle.field_containers.specs.Strung.{StringsIs, Listed as Lists}
use Rattle.field_containers.specs.Featured.{known_names, FeaturesAt, features_of, features_in, Known}
use Rattle.field_objects.specs.declared.notes.Slot.{Slot}
use Rattle.field_containers.specs.Nested.{Strung, columns_of, columns_in, ColumnsIs}
use Rattle.field_scalars.specs.Optionals.{optional_of}
use Rattle.field_scalars.proofs.Single.{text-single}
use Rattle.field_containers.proofs.Placed.{array-none, array-here}

-- ---- the array

module _ (s : Text) (v e : ℕ) (h : v ≤ e) (k : e ≤ length s) (w : value in_action (take (e - v) (drop v s)) ≡ Some []) where
  pub array-missing : byte 0x5B (drop v s) ≡ None → strings_of in_field (take (e - v) (drop v s)) ≡ None
  unfolding strings_of
  array-missing b = ap (λ o. o >>= strings) (array-none in_action s v e h k w in_field b)

  module _ (i : ℕ) (l : i ≤ length s) (b : byte 0x5B (drop v s) ≡ Some (drop i s)) where
    texts : (vs : List Text) × (elements (value in_field) (drop i s) ≡ Some (vs, drop e s)) × (array_of in_field (take (e - v) (drop v s)) ≡ Some vs)
    unfolding in_action in_field
    texts = array-here in_field s v e h k w i l b

    strings-are : strings_of in_field (take (e - v) (drop v s)) ≡ strings texts.0
    unfolding strings_of
    strings-are = ap (λ o. o >>= strings) texts.2

    pub array-refused : StringsIs (elements (value in_field) (drop i s)) s i None → strings_of in_field (take (e - v) (drop v s)) ≡ None
    array-refused f = strings-are ∙ sym (ap (λ (o : Option (List Text × Text)). o >>= (λ p. strings p.0)) texts.1) ∙ f

    pub array-strung : (n end : ℕ) → v + 1 ≤ i → StringsIs (elements (value in_field) (drop i s)) s i (Some (n, end))
        → Strung (strings_of in_field (take (e - v) (drop v s))) s i n
    array-strung n end m f = record {
      xs = f.ss;
      says = strings-are ∙ ap strings (value_same (sym texts.1 ∙ f.all)) ∙ f.each;
      listed = record { depth = in_field; vs = f.vs; left = drop end s; all = f.all; each = f.each };
      count = f.count;
      from = omega arith;
      within = l;
    }

-- ---- features

features-at : (s : Text) (at : ℕ) {xs : List Bytes} → 1 ≤ at → at ≤ length s → Lists s at xs → FeaturesAt s at xs
features-at s zero h k l = absurd (omega arith)
features-at s (suc n) h k l = (k, l)

module _ (s : Text) (x : Slot) where
  pub features-missing : (writer : Bool) → optional_of s x ≡ Some None → Known (features_in s x) s writer 0 true
  unfolding if_there or_empty all_among
  features-missing writer e = record { xs = []; says = ap (λ (t : Option (Option Text)). t >>= features_of) e; listed = refl; all = refl }

  pub features-twice : optional_of s x ≡ None → features_in s x ≡ None
  features-twice e = ap (λ (t : Option (Option Text)). t >>= features_of) e

  module _ (y : Text) (there : optional_of s x ≡ Some (Some y)) where
    features-are : features_in s x ≡ (strings_of in_field y >>= (λ xs. Some xs))
    unfolding if_there or_empty
    features-are = ap (λ (t : Option (Option Text)). t >>= features_of) there ∙ same-list (strings_of in_field y)
      where
        same-list : (o : Option (List Bytes)) → ((o >>= (λ xs. Some (Some xs))) >>= (λ xs. Some (or_empty xs))) ≡ (o >>= (λ xs. Some xs))
        same-list None = refl
        same-list (Some xs) = refl

    pub features-not : strings_of in_field y ≡ None → features_in s x ≡ None
    features-not e = features-are ∙ ap (λ (o : Option (List Bytes)). o >>= (λ xs. Some xs)) e

    pub features-listed : (writer known : Bool) (at n : ℕ) (a : Strung (strings_of in_field y) s at n) → known ≡ all_among (known_names writer) a.xs
        → Known (features_in s x) s writer at known
    features-listed writer known at n a e = record {
      xs = a.xs;
      says = features-are ∙ ap (λ (o : Option (List Bytes)). o >>= (λ xs. Some xs)) a.says;
      listed = features-at s at a.from a.within a.listed;
      all = e;
    }

  -- ---- columns

  module _ (sole : x.seen ≡ 1) where
    abbrev field : Text
    field = take (x.end - x.start) (drop x.start s)

    pub columns-not : strings_of in_field field ≡ None → columns_in s x ≡ None
    columns-not e =
        sym (text-single s x columns_of sole) ∙ ap (λ o. o >>= (λ cs. guard (leb (length cs) most_columns) >>= (λ _. guard (distinct cs) >>= (λ _. Some cs)))) e

    module _ (at n : ℕ) (a : Strung (strings_of in_field field) s at n) where
      columns-are : columns_in s x ≡ (guard (leb n most_columns) >>= (λ _. guard (distinct a.xs) >>= (λ _. Some a.xs)))
      columns-are = sym (text-single s x columns_of sole)
          ∙ ap (λ o. o >>= (λ cs. guard (leb (length cs) most_columns) >>= (λ _. guard (distinct cs) >>= (λ _. Some cs)))) a.says
          ∙ ap (λ (m : ℕ). guard (leb m most_columns) >>= (λ _. guard (distinct a.xs) >>= (λ _. Some a.xs))) a.count

      pub columns-many : 16 < n → columns_in s x ≡ None
      unfolding most_columns
      columns-many h = columns-are ∙ ap (λ (b : Bool). guard b >>= (λ _. guard (distinct a.xs) >>= (λ _. Some a.xs))) (lt-leb n 16 h)

      module _ (h : n ≤ 16) where
        columns-few : columns_in s x ≡ (guard (distinct a.xs) >>= (λ _. Some a.xs))
        unfolding most_columns
        columns-few = columns-are ∙ ap (λ (b : Bool). guard b >>= (λ _. guard (distinct a.xs) >>= (λ _. Some a.xs))) (le-leb n 16 h)

        pub columns-twice : distinct a.xs ≡ false → columns_in s x ≡ None
        columns-twice e = columns-few ∙ ap (λ (b : Bool). guard b >>= (λ _. Some a.xs)) e

        pub columns-there : distinct a.xs ≡ true → ColumnsIs (columns_in s x) s (Some at)
        columns-there e = (a.xs, columns-few ∙ ap (λ (b : Bool). guard b >>= (λ _. Some a.xs)) e, a.within, a.listed)
