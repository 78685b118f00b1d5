-- A line by its one member: its key, where its value begins, and what the rest of the line says.
use Rattle.std.specs.Prelude.{◌≡◌, Bool, true, false, List, [], ◌∷◌, ℕ, zero, suc, ◌≤◌, length, drop}
use Rattle.std.specs.Prelude.{Option, None, Some}
use Rattle.rules.specs.Actions.{in_line, in_action, Key, key_add, key_remove, key_protocol}
use Rattle.rules.specs.Actions.{key_meta_data, key_mergeskip, key_other, key_of, only_one, line_member}
use Rattle.rules.specs.Bytes.{Bytes, ◌>>=◌, guard, is_empty}
use Rattle.rules.specs.Json.Text.{Text, spelled, ws}
use Rattle.rules.specs.Json.Values.{Member, Behind, closed, onward, neither, closing, items, member, member_left, value, alone, object_of, members_left}
use Rattle.field_names.specs.Kinds.{names_of}
use Rattle.field_objects.specs.Slots.{Each, EachLeft}
use Rattle.field_names.specs.declared.kinds.Kind.{Kind}
use Rattle.field_names.specs.declared.kinds.Kind.TheVariants.{Add, Remove, Protocol, MetaData, Mergeskip}
use Rattle.field_objects.specs.declared.notes.Slot.{Slot}
use Rattle.field_containers.specs.Valued.{Valued}

-- behind the value of a line's member: the brace that closes the line's object, white space, and nothing more
abbrev pub ends_by : Behind → Bool
ends_by (closed u) = is_empty (ws u)
ends_by (onward u) = false
ends_by neither = false

abbrev pub ends : Text → Bool
ends r = ends_by (closing 0x7D r)

-- the text of the value that t begins with, where the line ends behind it
abbrev pub line_value : Text → Option Text
line_value t = spelled (value in_line) t >>= (λ p. guard (ends p.1) >>= (λ _. Some p.0))

-- a member of the name
abbrev pub keyed : Bytes → Option Text → Option Member
keyed name None = None
keyed name (Some x) = Some (name, x)

-- keys by their places among the names of a line, and the kinds of their objects
abbrev pub key_at : ℕ → Key
key_at zero = key_add
key_at (suc zero) = key_remove
key_at (suc (suc zero)) = key_protocol
key_at (suc (suc (suc zero))) = key_meta_data
key_at (suc (suc (suc (suc zero)))) = key_mergeskip
key_at (suc (suc (suc (suc (suc n))))) = key_other

abbrev pub kind_at : ℕ → Kind
kind_at zero = Add
kind_at (suc zero) = Remove
kind_at (suc (suc zero)) = Protocol
kind_at (suc (suc (suc zero))) = MetaData
kind_at (suc (suc (suc (suc n)))) = Mergeskip

-- the line is an object whose first member begins at j
pub record Braced (s : Text) (j : ℕ) : Type 0 where
  pub within : j ≤ length s
  pub line : line_member s ≡ (alone (items (member (value in_line)) 0x7D (suc (length (drop j s))) (drop j s)) >>= only_one)
  pub lefts : members_left in_line s ≡ (items (member_left (value in_line)) 0x7D (suc (length (drop j s))) (drop j s) >>= (λ p. Some p.0))

-- its key is that of place k, and its value begins at v
pub record Begun (s : Text) (k v : ℕ) : Type 0 where
  pub name : Bytes
  pub key : key_of name ≡ key_at k
  pub within : v ≤ length s
  pub line : line_member s ≡ keyed name (line_value (drop v s))
  pub left : (r : Text) → value in_line (drop v s) ≡ Some r → ends r ≡ true → members_left in_line s ≡ Some ((name, drop v s) ∷ [])

abbrev pub KeyedIs : Text → Option (ℕ × ℕ) → Type 0
KeyedIs s (Some (k, v)) = Begun s k v
KeyedIs s None = line_member s ≡ None

-- the same where a key was found; nothing is said where none was
abbrev pub FoundIs : Text → Option (ℕ × ℕ) → Type 0
FoundIs s (Some (k, v)) = Begun s k v
FoundIs s None = Unit {0}

-- its value is an object, whose members are in the slots
pub record Lined (s : Text) (k : ℕ) (slots : List Slot) : Type 0 where
  pub name : Bytes
  pub text : Text
  pub ms : List Member
  pub key : key_of name ≡ key_at k
  pub line : line_member s ≡ Some (name, text)
  pub object : object_of in_action text ≡ Some ms
  pub valued : Valued in_action ms
  pub each : Each s (names_of (kind_at k)) ms slots
  -- and by their places
  pub left : Text
  pub lefts : List Member
  pub line-left : members_left in_line s ≡ Some ((name, left) ∷ [])
  pub object-left : members_left in_action left ≡ Some lefts
  pub starts : EachLeft s (names_of (kind_at k)) lefts slots
