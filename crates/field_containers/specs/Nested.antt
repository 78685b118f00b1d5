-- What the fields of an action that hold others say: partition values, and arrays of strings, by positions.
use Rattle.std.specs.Prelude.{◌≡◌, true, List, [], ◌∷◌, ℕ, suc, ◌+◌, ◌-◌, ◌≤◌, ◌<◌, leb, length, take, drop}
use Rattle.std.specs.Prelude.{Option, None, Some}
use Rattle.rules.specs.Actions.{in_field, Pairs, pairs, most_columns}
use Rattle.rules.specs.Bytes.{Bytes, ◌>>=◌, guard, begins, distinct, firsts}
use Rattle.rules.specs.Json.Text.{Text}
use Rattle.rules.specs.Json.Values.{Member, closing, items, member, contents, value, object_of}
use Rattle.rules.specs.Json.Fields.{string_or_null, strings_of}
use Rattle.json_values.specs.Follows.{Follows}
use Rattle.json_values.specs.declared.Tail.TheVariants.{Closed}
use Rattle.field_names.specs.Spelled.{name_in, Named, Quoted}
use Rattle.field_names.specs.declared.keys.Spell.{Spell}
use Rattle.field_objects.specs.Namings.{Object}
use Rattle.field_objects.specs.Slots.{text_in}
use Rattle.field_scalars.specs.Texts.{Told}
use Rattle.field_containers.specs.Strung.{Listed as Lists}
use Rattle.field_objects.specs.declared.notes.Slot.{Slot}
use Rattle.field_containers.specs.declared.nested.Usual.{Usual}

-- ---- partition values

-- behind the brace before `at` stands an object
pub record Opened (s : Text) (at : ℕ) : Type 0 where
  pub ms : List Member
  pub left : Text
  pub all : contents (value in_field) (drop at s) ≡ Some (ms, left)

-- and its first member has the name n and says a string or null; the others stand from i on
pub record Second (s : Text) (at : ℕ) (n : Spell) (i : ℕ) : Type 0 where
  pub named : Named s n
  pub first : Text
  pub says : Option Bytes
  pub read : string_or_null first ≡ Some says
  pub ms : List Member
  pub left : Text
  pub from : 1 ≤ i
  pub within : i ≤ length s
  pub all : contents (value in_field) (drop at s) ≡ Some ((name_in s n, first) ∷ ms, left)
  pub more : items (member (value in_field)) 0x7D (suc (length (drop i s))) (drop i s) ≡ Some (ms, left)

-- the name n stands at `at` and ends at `end`, unless that is 0
abbrev pub Opens : (s : Text) (at : ℕ) (n : Spell) (end : ℕ) → Type 0
Opens s at n end = 0 < end → Quoted s at n × (n.end ≡ end)

-- one name, which stands behind the brace before `at` and ends at `end`, is all that the object has
pub record Sole (s : Text) (at end : ℕ) : Type 0 where
  pub n : Spell
  pub quoted : Quoted s at n
  pub ends : n.end ≡ end
  pub object : Object in_field s at (name_in s n ∷ [])

-- and so are one more, which stands from `second` up to `close`, and this
pub record Couple (s : Text) (at end second close : ℕ) : Type 0 where
  pub n : Spell
  pub m : Spell
  pub quoted : Quoted s at n
  pub ends : n.end ≡ end
  pub quoted-too : Quoted s second m
  pub closes : m.end ≡ close
  pub object : Object in_field s at (name_in s n ∷ name_in s m ∷ [])

-- what is told of the names behind the brace before `at`
pub record UsualIs (s : Text) (at : ℕ) (u : Usual) : Type 0 where
  pub one : 0 < u.end → u.second ≡ 0 → Sole s at u.end
  pub two : 0 < u.end → 0 < u.second → Couple s at u.end u.second u.close

-- the bytes of s from i up to `end` stand in t from j on
abbrev pub Again : (s : Text) (i end : ℕ) (t : Text) (j : ℕ) → Type 0
Again s i end t j = begins (take (end - i) (drop i s)) (take (length t - j) (drop j t)) ≡ true

-- behind an element that ends at `at` its array ends
abbrev pub Ended : Text → (at : ℕ) → Type 0
Ended t at = (k : ℕ) × Follows (closing 0x5D (drop at t)) t (at + 1) (Closed k)

-- behind the brace before `at` stand the partition values ps
pub record Pairing (s : Text) (at : ℕ) (ps : Pairs) : Type 0 where
  pub ms : List Member
  pub left : Text
  pub within : at ≤ length s
  pub all : contents (value in_field) (drop at s) ≡ Some (ms, left)
  pub each : pairs ms ≡ Some ps
  pub distinct : distinct (firsts ms) ≡ true

-- some partition values
pub record Paired (s : Text) (at : ℕ) : Type 0 where
  pub ps : Pairs
  pub pairing : Pairing s at ps

-- the partition values that members are: strings or nulls under distinct names
abbrev pub values_from : List Member → Option Pairs
values_from ms = guard (distinct (firsts ms)) >>= (λ _. pairs ms)

abbrev pub values_of : Text → Option Pairs
values_of v = object_of in_field v >>= values_from

abbrev pub values_in : Text → Slot → Option Pairs
values_in s x = text_in s x.seen x.start x.end >>= values_of

-- o is what the members behind the brace before `at` say
abbrev pub JudgedIs : Option Pairs → Text → (at : ℕ) → Option Usual → Type 0
JudgedIs o s at (Some u) = Told o true × UsualIs s at u
JudgedIs o s at None = o ≡ None

abbrev pub ValuesIs : Option Pairs → Text → Option (ℕ × Usual) → Type 0
ValuesIs o s (Some (at, u)) = (ps : Pairs) × (o ≡ Some ps) × Pairing s at ps × UsualIs s at u
ValuesIs o s None = o ≡ None

-- ---- arrays of strings

-- o is the list of the strings behind the bracket before `at`
pub record Strung (o : Option (List Bytes)) (s : Text) (at n : ℕ) : Type 0 where
  pub xs : List Bytes
  pub says : o ≡ Some xs
  pub listed : Lists s at xs
  pub count : length xs ≡ n
  pub from : 1 ≤ at
  pub within : at ≤ length s

abbrev pub ArrayIs : Option (List Bytes) → Text → Option (ℕ × ℕ) → Type 0
ArrayIs o s (Some (at, n)) = Strung o s at n
ArrayIs o s None = o ≡ None

-- at most 16 distinct strings
abbrev pub columns_of : Text → Option (List Bytes)
columns_of v = strings_of in_field v >>= (λ cs. guard (leb (length cs) most_columns) >>= (λ _. guard (distinct cs) >>= (λ _. Some cs)))

abbrev pub columns_in : Text → Slot → Option (List Bytes)
columns_in s x = text_in s x.seen x.start x.end >>= columns_of

abbrev pub ColumnsIs : Option (List Bytes) → Text → Option ℕ → Type 0
ColumnsIs o s (Some at) = (cs : List Bytes) × (o ≡ Some cs) × (at ≤ length s) × Lists s at cs
ColumnsIs o s None = o ≡ None
