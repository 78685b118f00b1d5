-- Two arrays of strings met again, in step: they are the same, one after the other, if what is left of them is.
use mathlib.Core.Path.{◌≡◌, refl, sym, ap, ap₂, ◌∙◌}
use mathlib.Core.Bool.{true, false}
use Rattle.std.specs.Prelude.{Option, None, Some}
use mathlib.Core.List.{List, [], ◌∷◌}
use Prim.Native.Nat.{ℕ, ◌+◌}
use lib.ListN.{drop}
use Rattle.rules.specs.Bytes.{Bytes, same, same_each}
use Rattle.rules.specs.Json.Text.{Text, spelled}
use Rattle.rules.specs.Json.Values.{opening, closing, value}
use Rattle.rules.specs.Json.Fields.{string_of, strings}
use Rattle.rules.proofs.Tests.{apart}
use Rattle.rules.proofs.Json.Suffix.{answered-none, bound}
use Rattle.rules.proofs.Json.Steps.{rest-none}
use Rattle.json_values.specs.Follows.{Follows}
use Rattle.json_values.specs.declared.Tail.TheVariants.{Closed, More}
use Rattle.field_names.specs.Spelled.{name_in, Quoted}
use Rattle.field_names.specs.declared.keys.Spell.{Spell}
use Rattle.field_objects.proofs.Passing.{items-first}
use Rattle.field_containers.specs.Strung.{Listed, Onward}
use Rattle.field_containers.proofs.Walking.{listed-closed, listed_more, onward-closed, onward-more, onward-first}

-- ---- the lists alone

each_same : (x y : Bytes) (xs ys : List Bytes) → same x y ≡ true → same_each (x ∷ xs) (y ∷ ys) ≡ same_each xs ys
unfolding same_each
each_same x y xs ys e = rw (same_each, e)

each-other : (x y : Bytes) (xs ys : List Bytes) → same x y ≡ false → same_each (x ∷ xs) (y ∷ ys) ≡ false
unfolding same_each
each-other x y xs ys e = rw (same_each, e)

each-short : (ys : List Bytes) → (ys ≡ [] → ⊥) → same_each [] ys ≡ false
unfolding same_each
each-short [] n = absurd (n refl)
each-short (y ∷ ys) n = refl

each_long : (xs : List Bytes) → (xs ≡ [] → ⊥) → same_each xs [] ≡ false
unfolding same_each
each_long [] n = absurd (n refl)
each_long (x ∷ xs) n = refl

-- ---- an element is left

strings-some : (v : Text) (vs : List Text) {ss : List Bytes} → strings (v ∷ vs) ≡ Some ss → ss ≡ [] → ⊥
unfolding strings
strings-some v vs e n = bound (string_of v) _ e (λ x g h. bound (strings vs) _ h (λ more k l. apart (cc)))

onward-some : (s : Text) (i : ℕ) (ss : List Bytes) → Onward s i ss → ss ≡ [] → ⊥
onward-some s i ss o = go (spelled (value o.depth) (drop i s)) refl
  where
    go : (r : Option (Text × Text)) → spelled (value o.depth) (drop i s) ≡ r → ss ≡ [] → ⊥
    go None p = answered-none o.all (rest-none (spelled (value o.depth)) 0x5D (drop i s) p)
    go (Some y) p =
        let (ws, e) = items-first (spelled (value o.depth)) 0x5D (drop i s) p o.all in
        strings-some y.0 ws (sym (ap strings e) ∙ o.each)

-- ---- in step

-- what is left from i and from j on decides
abbrev pub Paired : (s : Text) (at : ℕ) (t : Text) (from i j : ℕ) → Type 0
Paired s at t from i j =
    (xs ys : List Bytes) → Onward s at xs → Onward t from ys
    → (xs' ys' : List Bytes) × (same_each xs ys ≡ same_each xs' ys') × Onward s i xs' × Onward t j ys'

module _ (s : Text) (at : ℕ) (t : Text) (from i j : ℕ) (w : Paired s at t from i j) (n m : Spell) (q : Quoted s i n) (p : Quoted t j m) where
  pub pair-other : same (name_in s n) (name_in t m) ≡ false → (xs ys : List Bytes) → Onward s at xs → Onward t from ys → false ≡ same_each xs ys
  pair-other e xs ys o r =
      let (a, b, g, c, d) = w xs ys o r in
      let (cs, h) = onward-first s i a c n q in
      let (ds, k) = onward-first t j b d m p in
      sym (g ∙ ap₂ same_each h k ∙ each-other (name_in s n) (name_in t m) cs ds e)

  module _ (e : same (name_in s n) (name_in t m) ≡ true) where
    module _ {k : ℕ} (f : Follows (closing 0x5D (drop n.end s)) s (n.end + 1) (Closed k)) where
      pub pair-last : {l : ℕ} → Follows (closing 0x5D (drop m.end t)) t (m.end + 1) (Closed l)
          → (xs ys : List Bytes) → Onward s at xs → Onward t from ys → true ≡ same_each xs ys
      unfolding same_each
      pair-last u xs ys o r =
          let (a, b, g, c, d) = w xs ys o r in
          sym (g ∙ ap₂ same_each (onward-closed s i a c n q f) (onward-closed t j b d m p u) ∙ each_same (name_in s n) (name_in t m) [] [] e)

      pub pair-short : {l : ℕ} → Follows (closing 0x5D (drop m.end t)) t (m.end + 1) (More l)
          → (xs ys : List Bytes) → Onward s at xs → Onward t from ys → false ≡ same_each xs ys
      pair-short {l} u xs ys o r =
          let (a, b, g, c, d) = w xs ys o r in
          let (ds, h, v) = onward-more t j b d m p l u in
          sym (g ∙ ap₂ same_each (onward-closed s i a c n q f) h ∙ each_same (name_in s n) (name_in t m) [] ds e ∙ each-short ds (onward-some t l ds v))

    module _ (k : ℕ) (f : Follows (closing 0x5D (drop n.end s)) s (n.end + 1) (More k)) where
      pub pair-long : {l : ℕ} → Follows (closing 0x5D (drop m.end t)) t (m.end + 1) (Closed l)
          → (xs ys : List Bytes) → Onward s at xs → Onward t from ys → false ≡ same_each xs ys
      pair-long u xs ys o r =
          let (a, b, g, c, d) = w xs ys o r in
          let (cs, h, v) = onward-more s i a c n q k f in
          sym (g ∙ ap₂ same_each h (onward-closed t j b d m p u) ∙ each_same (name_in s n) (name_in t m) cs [] e ∙ each_long cs (onward-some s k cs v))

      pub pair-more : (l : ℕ) → Follows (closing 0x5D (drop m.end t)) t (m.end + 1) (More l) → Paired s at t from k l
      pair-more l u xs ys o r =
          let (a, b, g, c, d) = w xs ys o r in
          let (cs, h, v) = onward-more s i a c n q k f in
          let (ds, h', v') = onward-more t j b d m p l u in
          (cs, ds, g ∙ ap₂ same_each h h' ∙ each_same (name_in s n) (name_in t m) cs ds e, v, v')

-- ---- behind the opening brackets

module _ (s : Text) (at : ℕ) (xs : List Bytes) (a : Listed s at xs) (t : Text) (from : ℕ) (ys : List Bytes) (b : Listed t from ys) where
  pub lists-empty : {k l : ℕ} → Follows (opening 0x5D (drop at s)) s at (Closed k) → Follows (opening 0x5D (drop from t)) t from (Closed l)
      → true ≡ same_each xs ys
  unfolding same_each
  lists-empty f u = sym (ap₂ same_each (listed-closed s at xs a f) (listed-closed t from ys b u))

  pub lists-short : {k : ℕ} (l : ℕ) → Follows (opening 0x5D (drop at s)) s at (Closed k) → Follows (opening 0x5D (drop from t)) t from (More l)
      → false ≡ same_each xs ys
  lists-short l f u =
      sym (ap (λ (zs : List Bytes). same_each zs ys) (listed-closed s at xs a f) ∙ each-short ys (onward-some t l ys (listed_more t from ys b l u)))

  pub lists-long : (k : ℕ) {l : ℕ} → Follows (opening 0x5D (drop at s)) s at (More k) → Follows (opening 0x5D (drop from t)) t from (Closed l)
      → false ≡ same_each xs ys
  lists-long k f u =
      sym (ap (λ (zs : List Bytes). same_each xs zs) (listed-closed t from ys b u) ∙ each_long xs (onward-some s k xs (listed_more s at xs a k f)))
