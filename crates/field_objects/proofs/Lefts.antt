-- The places in the slots are those of the rules: a field that stands once begins where its slot says.
use mathlib.Core.Path.{◌≡◌, refl, sym, ap, ◌∙◌, subst}
use mathlib.Core.Bool.{Bool, true, false}
use Rattle.std.specs.Prelude.{Option, Some}
use mathlib.Core.List.{List, [], ◌∷◌, ◌++◌}
use Prim.Native.Nat.{ℕ, zero, suc, ◌≤◌}
use native.Mathlib.Omega.{arith}
use lib.ListN.{length, take, drop, get_or, take-append-drop}
use Rattle.rules.specs.Bytes.{Bytes, same}
use Rattle.rules.specs.Json.Text.{Text}
use Rattle.rules.specs.Json.Values.{Behind, opening, closing, Member, member_left, contents, list, value}
use Rattle.rules.specs.Json.Fields.{under, sole}
use Rattle.rules.proofs.Json.Suffix.{reads-left, reads-passed}
use Rattle.rules.proofs.Json.TextReads.{ws-reads, spelled-left, spelled-text}
use Rattle.rules.proofs.Json.ValueReads.{closing-onward, opening-onward, value-reads}
use Rattle.rules.proofs.Json.Steps.{contents-list}
use Rattle.rules.proofs.Json.Lefts.{Begins, list_left}
use Rattle.rules.proofs.Suffixes.{Suffix, suffix_trans, suffix-drop}
use Rattle.rules.proofs.MemberPlaces.{begins-suffix, rest-suffix}
use Rattle.field_objects.specs.Places.{Placed, next_in, value_in, placed, following, places_from, places_in}
use Rattle.field_objects.specs.Slots.{missing, one_more, slot_by, EachLeft, slot_of, Filled}
use Rattle.field_objects.specs.declared.notes.Slot.{Slot}
use Rattle.field_objects.proofs.Places.{slots-named}

-- ---- members by their places, as numbers and as what is left

data Placing (s : Text) : List Placed → List Member → Type 0 where
  no_more : Placing s [] []
  placing : {name : Bytes} {v e : ℕ} {ps : List Placed} {fs : List Member} → Placing s ps fs → Placing s ((name, v, e) ∷ ps) ((name, drop v s) ∷ fs)

module _ (d : ℕ) (s : Text) where
  placing-step : (t : Text) (m : Member) (v r : Text) (ms fs : List Member) → Begins (value d) t m v r → Suffix t s
      → Placing s (places_from s (next_in (closing 0x7D r)) ms) fs → Placing s (places_from s t (m ∷ ms)) ((m.0, v) ∷ fs)
  unfolding places_from placed following value_in
  placing-step t m v r ms fs b suffix h =
      let whole : Suffix v s = suffix_trans v t s (begins-suffix (value-reads d) t m v r b) suffix in
      let reads = value-reads d v r (spelled-left (value d) v b.text) in
      let passed : m.1 ≡ reads.passed = spelled-text (value d) v b.text ∙ reads-passed reads in
      let rest : drop (length m.1) v ≡ r = ap (λ (x : Text). drop (length x) v) passed ∙ sym (reads-left reads) in
      let found : value_in t ≡ Some v = rw (value_in, b.quote, b.name) b.parted in
      subst (λ (o : Option Text). Placing s (placed s m o ∷ places_from s (following m o) ms) ((m.0, v) ∷ fs)) (sym found)
      (subst (λ (u : Text). Placing s (placed s m (Some v) ∷ places_from s (following m (Some v)) ms) ((m.0, u) ∷ fs))
      (suffix-drop v s whole)
      (placing (subst (λ (u : Text). Placing s (places_from s (next_in (closing 0x7D u)) ms) fs) (sym rest) h)))

  places-left : (at : ℕ) (ms : List Member) (r : Text) → contents (value d) (drop at s) ≡ Some (ms, r)
      → (fs : List Member) × (list (member_left (value d)) 0x7D (drop at s) ≡ Some (fs, r)) × Placing s (places_in s at ms) fs
  unfolding places_in places_from next_in
  places-left at ms r e =
      list_left (value d) (λ t xs fs. Suffix t s → Placing s (places_from s t xs) fs)
      (λ t m v q b suffix. placing-step t m v q [] [] b suffix no_more)
      (λ t m v q u xs fs b c h suffix.
      let k = closing-onward 0x7D q u c in
      let more : Suffix u s = suffix_trans u q s (k.passed, k.split) (suffix_trans q t s (rest-suffix (value-reads d) t m v q b) suffix) in
      placing-step t m v q xs fs b suffix (subst (λ (x : Behind). Placing s (places_from s (next_in x) xs) fs) (sym c) (h more)))
      (drop at s) ms r (λ xs fs. Placing s (places_from s (next_in (opening 0x7D (drop at s))) xs) fs)
      (λ u h. no_more)
      (λ u xs fs h k.
      let w = ws-reads (drop at s) in
      let here : drop at s ≡ w.passed ++ u = w.split ∙ ap (λ (x : Text). w.passed ++ x) (sym (opening-onward 0x7D (drop at s) u h)) in
      let begin : Suffix u s = suffix_trans u (drop at s) s (w.passed, here) (take at s, sym (take-append-drop at s)) in
      subst (λ (x : Behind). Placing s (places_from s (next_in x) xs) fs) (sym h) (k begin))
      (sym (contents-list (value d) (drop at s)) ∙ e)

-- ---- a slot

again_two : (n v e : ℕ) → 1 ≤ n → (one_more n v e).seen ≡ 2
again_two zero v e l = absurd (omega arith)
again_two (suc n) v e l = refl

module _ (s : Text) (name : Bytes) where
  -- what was seen twice stays so
  slot_twice : {ps : List Placed} {fs : List Member} → Placing s ps fs → (x : Slot) → 2 ≤ x.seen → (slot_of name ps x).seen ≡ 1 → ⊥
  unfolding slot_of
  slot_twice no_more x l k = omega arith
  slot_twice (placing {name = n} {v} {e} {ps} h) x l k = go (λ y m i. slot_twice h y m i) (same n name) k
    where
      go : ((y : Slot) → 2 ≤ y.seen → (slot_of name ps y).seen ≡ 1 → ⊥) → (b : Bool) → (slot_of name ps (slot_by b (one_more x.seen v e) x)).seen ≡ 1 → ⊥
      go ih true i = let z = again_two x.seen v e (omega arith) in ih (one_more x.seen v e) (omega arith) i
      go ih false i = ih x l i

  -- what was seen is seen no more
  abbrev Kept : List Placed → List Member → Slot → Type 0
  Kept ps fs x = x.seen ≡ 1 → (slot_of name ps x).seen ≡ 1 → (under name fs ≡ []) × (slot_of name ps x ≡ x)

  slot_kept : {ps : List Placed} {fs : List Member} → Placing s ps fs → (x : Slot) → Kept ps fs x
  unfolding slot_of under
  slot_kept no_more x o k = (refl, refl)
  slot_kept (placing {name = n} {v} {e} {ps} {fs} h) x o k = go (λ p i. slot_kept h x p i) (same n name) k
    where
      go : Kept ps fs x → (b : Bool) → (slot_of name ps (slot_by b (one_more x.seen v e) x)).seen ≡ 1
          → (◌≡◌ {A = List Text} (elim b [ true ↦ drop v s ∷ under name fs | false ↦ under name fs ]) [])
          × (slot_of name ps (slot_by b (one_more x.seen v e) x) ≡ x)
      go ih true i = let z = again_two x.seen v e (omega arith) in absurd (slot_twice h (one_more x.seen v e) (omega arith) i)
      go ih false i = ih o i

  abbrev Found : List Placed → List Member → Slot → Type 0
  Found ps fs x = x.seen ≡ 0 → (slot_of name ps x).seen ≡ 1 → sole (under name fs) ≡ Some (drop (slot_of name ps x).start s)

  slot-left : {ps : List Placed} {fs : List Member} → Placing s ps fs → (x : Slot) → Found ps fs x
  unfolding slot_of under sole
  slot-left no_more x o k = absurd (omega arith)
  slot-left (placing {name = n} {v} {e} {ps} {fs} h) x o k = go (λ p i. slot-left h x p i) (same n name) k
    where
      first : one_more x.seen v e ≡ record { seen = 1; start = v; end = e }
      first = ap (λ (n : ℕ). one_more n v e) o

      go : Found ps fs x → (b : Bool) → (slot_of name ps (slot_by b (one_more x.seen v e) x)).seen ≡ 1
          → sole (elim b [ true ↦ drop v s ∷ under name fs | false ↦ under name fs ])
          ≡ Some (drop (slot_of name ps (slot_by b (one_more x.seen v e) x)).start s)
      go ih true i =
          let (None-more, same-slot) = slot_kept h (one_more x.seen v e) (ap (λ (y : Slot). y.seen) first) i in
          ap (λ (vs : List Text). sole (drop v s ∷ vs)) None-more ∙ ap (λ (y : Slot). Some (drop y.start s)) (sym (same-slot ∙ first))
      go ih false i = ih o i

pub filled-left : (d : ℕ) (s : Text) (at : ℕ) (names : List Bytes) (end : ℕ) (slots : List Slot)
    → Filled (contents (value d) (drop at s)) s at names end slots → length names ≤ 8
    → (fs : List Member) × (list (member_left (value d)) 0x7D (drop at s) ≡ Some (fs, drop end s)) × EachLeft s names fs slots
filled-left d s at names end slots r few =
    let (fs, l, p) = places-left d s at r.ms (drop end s) r.all in (
      fs,
      l,
      λ k h o.
          let here : get_or slots k missing ≡ slot_of (get_or names k []) (places_in s at r.ms) missing
          = ap (λ (xs : List Slot). get_or xs k missing) r.exact ∙ slots-named 8 names (places_in s at r.ms) k h (omega arith) in
          slot-left s (get_or names k []) p missing refl (ap (λ (x : Slot). x.seen) (sym here) ∙ o) ∙ ap (λ (x : Slot). Some (drop x.start s)) (sym here),
    )
