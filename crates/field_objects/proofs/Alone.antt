-- A member that is read and a scan of an object have one answer: the rules fix the members and what is left, and these the places.
use mathlib.Core.Path.{◌≡◌, refl, sym, ap, ◌∙◌}
use mathlib.Core.Bool.{Bool}
use Rattle.std.specs.Prelude.{Option}
use mathlib.Core.List.{List}
use Prim.Native.Nat.{ℕ}
use native.Mathlib.Omega.{arith}
use Rattle.rules.specs.Bytes.{Bytes, distinct}
use Rattle.rules.specs.Json.Text.{Text}
use Rattle.rules.specs.Json.Values.{Member}
use Rattle.rules.proofs.Json.Suffix.{some_same, value_same, left-same, answered-none}
use Rattle.json_tokens.proofs.Alone.{left_alone}
use Rattle.field_names.specs.Spelled.{Quoted}
use Rattle.field_names.specs.declared.keys.Spell.{Spell}
use Rattle.std.specs.Prelude.{Some, None}
use Rattle.field_names.proofs.KeysAlone.{name-alone}
use Rattle.field_objects.specs.Standing.{Stands, MetIs}
use Rattle.field_objects.specs.Namings.{Object, IsObject}
use Rattle.field_objects.specs.Places.{places_in}
use Rattle.field_objects.specs.Slots.{slots_of, Scanned}
use Rattle.field_objects.specs.declared.notes.Slot.{Slot}
use Rattle.field_objects.specs.declared.notes.Fields.{Fields}

-- ---- a member

module _ (o : Option (Member × Text)) (s : Text) (at : ℕ) where
  quoted : {n : Spell} {v e : ℕ} → Stands o s at n v e → Quoted s at n
  quoted f = record { quote = f.quote; from = f.first; named = f.named }

  pub met-alone : (r q : Option (Spell × ℕ × ℕ)) → MetIs o s at r → MetIs o s at q → r ≡ q
  met-alone (Some (n, v, e)) (Some (m, w, d)) f k =
      let names : Some n ≡ Some m = name-alone s at (Some n) (Some m) (quoted f) (quoted k) in
      let name : n ≡ m = cc names in
      let left = some_same (sym f.value ∙ k.value) in
      let value : v ≡ w = left_alone s v w (omega (arith, f.ordered, f.within)) (omega (arith, k.ordered, k.within)) left in
      let end : e ≡ d = left_alone s e d f.within k.within (left-same (sym f.read ∙ k.read)) in
      ap (λ (x : Spell). (Some (x, v, e))) name ∙ ap (λ (i : ℕ). (Some (m, i, e))) value ∙ ap (λ (e : ℕ). Some (m, w, e)) end
  met-alone (Some (n, v, e)) None f k = answered-none f.read k
  met-alone None (Some (m, w, d)) f k = answered-none k.read f
  met-alone None None f k = refl

-- ---- a scan

module _ (o : Option (List Member × Text)) (s : Text) (at : ℕ) (names : List Bytes) where
  pub scanned-alone : (r q : Option Fields) → Scanned o s at names r → Scanned o s at names q → r ≡ q
  scanned-alone (Some f) (Some g) h k =
      let both = sym h.all ∙ k.all in
      let ends : f.end ≡ g.end = left_alone s f.end g.end h.within k.within (left-same both) in
      let slots : f.slots ≡ g.slots = h.exact ∙ ap (λ (ms : List Member). slots_of 8 names (places_in s at ms)) (value_same both) ∙ sym k.exact in
      ap (λ (e : ℕ). Some (record { end = e; slots = f.slots })) ends ∙ ap (λ (xs : List Slot). Some (record { end = g.end; slots = xs })) slots
  scanned-alone (Some f) None h k = answered-none h.all k
  scanned-alone None (Some g) h k = answered-none k.all h
  scanned-alone None None h k = refl

-- ---- what is asked of all names of a list that stands there

pub asked-alone : (Whole : List Bytes → Type 0) (f : List Bytes → Bool) (names : List Bytes) → Whole names → (r q : Bool)
    → ((names : List Bytes) → Whole names → r ≡ f names) → ((names : List Bytes) → Whole names → q ≡ f names) → r ≡ q
asked-alone Whole f names w r q g h = g names w ∙ sym (h names w)

pub distinct-alone : (depth : ℕ) (s : Text) (at : ℕ) → IsObject depth s at → (r q : Bool)
    → ((names : List Bytes) → Object depth s at names → r ≡ distinct names) → ((names : List Bytes) → Object depth s at names → q ≡ distinct names) → r ≡ q
distinct-alone depth s at o = asked-alone (Object depth s at) distinct o.names o.object
