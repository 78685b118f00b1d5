-- What a slot says of a field: how often it stands in an object, and where its value is.
use Rattle.std.specs.Prelude.{◌≡◌, Bool, true, false, List, [], ◌∷◌, ℕ, zero, suc, ◌+◌, ◌-◌, ◌≤◌, ◌<◌, eqb, length, take, drop, get_or, replicate}
use Rattle.std.specs.Prelude.{Option, None, Some}
use Rattle.rules.specs.Bytes.{Bytes, same}
use Rattle.rules.specs.Json.Text.{Text}
use Rattle.rules.specs.Json.Values.{Member}
use Rattle.rules.specs.Json.Fields.{under, sole, sole_or_none}
use Rattle.field_objects.specs.Places.{Placed, places_in}
use Rattle.field_objects.specs.declared.notes.Slot.{Slot}
use Rattle.field_objects.specs.declared.notes.Fields.{Fields}

abbrev pub missing : Slot
missing = record { seen = 0; start = 0; end = 0 }

-- the values of a field, by how often it was seen: none; one, which stands from v to e; more
abbrev pub Times : Text → (seen v e : ℕ) → List Text → Type 0
Times s zero v e vs = vs ≡ []
Times s (suc zero) v e vs = (vs ≡ take (e - v) (drop v s) ∷ []) × (v ≤ e) × (e ≤ length s)
Times s (suc (suc n)) v e vs = 2 ≤ length vs

abbrev pub Holds : Text → Slot → List Text → Type 0
Holds s x vs = Times s x.seen x.start x.end vs

-- one value more, which stands from v to e
abbrev pub one_more : (seen v e : ℕ) → Slot
one_more zero v e = record { seen = 1; start = v; end = e }
one_more (suc n) v e = record { seen = 2; start = 0; end = 0 }

abbrev pub slot_by : Bool → Slot → Slot → Slot
slot_by true a b = a
slot_by false a b = b

-- one value more in slot k if it is one of the names', the others unchanged
pub record Noted (slots : List Slot) (names k v e : ℕ) (r : List Slot) : Type 0 where
  pub size : length r ≡ 8
  pub each : (j : ℕ) → j < names → get_or r j missing ≡ slot_by (eqb k j) (one_more (get_or slots j missing).seen v e) (get_or slots j missing)
  pub past : (j : ℕ) → names ≤ j → get_or r j missing ≡ get_or slots j missing

-- each name's values are in its slot
abbrev pub Each : Text → (names : List Bytes) → List Member → List Slot → Type 0
Each s names ms slots = (k : ℕ) → k < length names → Holds s (get_or slots k missing) (under (get_or names k []) ms)

-- a name's value that stands once begins where its slot says, by the places of the members
abbrev pub EachLeft : Text → (names : List Bytes) → (lefts : List Member) → List Slot → Type 0
EachLeft s names lefts slots =
    (k : ℕ) → k < length names → (get_or slots k missing).seen ≡ 1 → sole (under (get_or names k []) lefts) ≡ Some (drop (get_or slots k missing).start s)

-- the slot of a name, with one value more for each member that has it
unfoldable pub slot_of : (name : Bytes) → List Placed → Slot → Slot
slot_of name [] x = x
slot_of name (p ∷ ps) x = slot_of name ps (slot_by (same p.0 name) (one_more x.seen p.1 p.2) x)

-- n slots: of the names, and then missing ones
unfoldable pub slots_of : (n : ℕ) → (names : List Bytes) → List Placed → List Slot
slots_of zero names ps = []
slots_of (suc n) [] ps = missing ∷ slots_of n [] ps
slots_of (suc n) (k ∷ ks) ps = slot_of k ps missing ∷ slots_of n ks ps

-- o is what the rules say of the object behind whose brace `at` is
pub record Filled (o : Option (List Member × Text)) (s : Text) (at : ℕ) (names : List Bytes) (end : ℕ) (slots : List Slot) : Type 0 where
  pub ms : List Member
  pub all : o ≡ Some (ms, drop end s)
  pub from : at + 1 ≤ end
  pub within : end ≤ length s
  pub each : Each s names ms slots
  pub exact : slots ≡ slots_of 8 names (places_in s at ms)

-- two answers of which this is said are the same (proofs/Alone.antt)
abbrev pub Scanned : Option (List Member × Text) → Text → (at : ℕ) → List Bytes → Option Fields → Type 0
Scanned o s at names (Some f) = Filled o s at names f.end f.slots
Scanned o s at names None = o ≡ None

-- the text of a field that stands once
abbrev pub text_in : Text → (seen v e : ℕ) → Option Text
text_in s zero v e = None
text_in s (suc zero) v e = Some (take (e - v) (drop v s))
text_in s (suc (suc n)) v e = None

-- the same of a field that may be missing or null, which are alike
abbrev pub optional_in : Text → (seen v e : ℕ) → Option (Option Text)
optional_in s zero v e = Some None
optional_in s (suc zero) v e = sole_or_none (take (e - v) (drop v s) ∷ [])
optional_in s (suc (suc n)) v e = None
