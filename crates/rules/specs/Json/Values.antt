-- Objects, arrays and values. What a container holds is a list; how deep values nest is a number that falls.
use Rattle.std.specs.Prelude.{true, false, List, [], ◌∷◌, ℕ, zero, suc, eqb, length}
use Rattle.std.specs.Prelude.{Option, None, Some}
use Rattle.rules.specs.Bytes.{Bytes, ascii, ◌>>=◌, is_empty}
use Rattle.rules.specs.Json.Text.{Text, Reader, Taker, behind, spelled, ws, byte, word}
use Rattle.rules.specs.Json.Numbers.{number}
use Rattle.rules.specs.Json.Strings.{string}

-- ---- [ item *( value-separator item ) ] and the byte that closes it, behind the byte that opens it

-- behind the opening byte, or behind an item: the closing byte, one more item, or neither
pub data Behind : Type 0 where
  closed : Text → Behind
  onward : Text → Behind
  neither : Behind

-- ws [ close ]
unfoldable pub opened_by : (close : ℕ) → Text → Behind
opened_by close [] = neither
opened_by close (b ∷ t) = elim (eqb b close) [ true ↦ closed t | false ↦ onward (b ∷ t) ]

unfoldable pub opening : (close : ℕ) → Text → Behind
opening close t = opened_by close (ws t)

-- ws ( close / value-separator ws )
unfoldable pub closed_by : (close : ℕ) → Text → Behind
closed_by close [] = neither
closed_by close (b ∷ t) = elim (eqb b close) [ true ↦ closed t | false ↦ elim (eqb b 0x2C) [ true ↦ onward (ws t) | false ↦ neither ] ]

unfoldable pub closing : (close : ℕ) → Text → Behind
closing close t = closed_by close (ws t)

module _ {A : Type 0} where
  -- one more in front
  unfoldable pub and_then : A → Option (List A × Text) → Option (List A × Text)
  and_then x None = None
  and_then x (Some p) = Some (x ∷ p.0, p.1)

  unfoldable pub after_item : A → Behind → Taker (List A) → Option (List A × Text)
  after_item x (closed t) others = Some (x ∷ [], t)
  after_item x (onward t) others = and_then x (others t)
  after_item x neither others = None

  -- one item or more, fewer than the bound
  unfoldable pub items : Taker A → (close bound : ℕ) → Taker (List A)
  items item close zero t = None
  items item close (suc n) t = do
    (x, r) ← item t
    after_item x (closing close r) (λ u. items item close n u)

  unfoldable pub items_behind : Taker A → (close : ℕ) → Behind → Option (List A × Text)
  items_behind item close (closed t) = Some ([], t)
  items_behind item close (onward t) = items item close (suc (length t)) t
  items_behind item close neither = None

  -- each item takes a byte at least, so there are fewer than the bytes that are left
  unfoldable pub list : Taker A → (close : ℕ) → Taker (List A)
  list item close t = items_behind item close (opening close t)

-- ---- objects and arrays, with the reader of their values

-- a member: the bytes that its name stands for, and the text of its value
abbrev pub Member : Type 0
Member = Bytes × Text

-- ws name-separator ws
unfoldable pub colon : Reader
colon t = do
  r ← byte 0x3A (ws t)
  Some (ws r)

-- member = string name-separator value
unfoldable pub member : Reader → Taker Member
member value t = do
  n ← byte 0x22 t
  (name, r) ← string n
  v ← colon r
  (text, u) ← spelled value v
  Some ((name, text), u)

-- the same by its place: in the place of the value's text all that is left from the value on
unfoldable pub member_left : Reader → Taker Member
member_left value t = do
  n ← byte 0x22 t
  (name, r) ← string n
  v ← colon r
  u ← value v
  Some ((name, v), u)

-- object = begin-object [ member *( value-separator member ) ] end-object: its members, behind the brace
unfoldable pub contents : Reader → Taker (List Member)
contents value = list (member value) 0x7D

-- array = begin-array [ value *( value-separator value ) ] end-array: the texts of its values, behind the bracket
unfoldable pub elements : Reader → Taker (List Text)
elements value = list (spelled value) 0x5D

-- ---- values

-- false / null / true / number / string
unfoldable pub scalar : Reader
scalar [] = None
scalar (b ∷ t) =
    elim (eqb b 0x22) [
      | true ↦ behind (string t)
      | false ↦
          elim (eqb b 0x66) [
            | true ↦ word (ascii "alse") t
            | false ↦
                elim (eqb b 0x6E) [
                  | true ↦ word (ascii "ull") t
                  | false ↦
                      elim (eqb b 0x74) [
                        | true ↦ word (ascii "rue") t
                        | false ↦
                            number (b ∷ t)
                      ]
                ]
          ]
    ]

-- value = false / null / true / object / array / number / string, where objects and arrays are read as given
unfoldable pub value_by : (object array : Reader) → Reader
value_by object array [] = None
value_by object array (b ∷ t) =
    elim (eqb b 0x7B) [
      | true ↦ object t
      | false ↦
          elim (eqb b 0x5B) [
            | true ↦ array t
            | false ↦
                scalar (b ∷ t)
          ]
    ]

-- a value in which objects and arrays nest at most d deep
unfoldable pub value : (d : ℕ) → Reader
value zero = value_by (λ t. None) (λ t. None)
value (suc d) = value_by (λ t. behind (contents (value d) t)) (λ t. behind (elements (value d) t))

-- ---- JSON-text = ws value ws, and nothing more

module _ {A : Type 0} where
  unfoldable pub alone : Option (A × Text) → Option A
  alone None = None
  alone (Some p) = elim (is_empty (ws p.1)) [ true ↦ Some p.0 | false ↦ None ]

-- a text that is one object: its members, whose values nest at most d deep
unfoldable pub object_of : (d : ℕ) → Text → Option (List Member)
object_of d t = do
  r ← byte 0x7B (ws t)
  alone (contents (value d) r)

-- a text that is one array: the texts of its values, which nest at most d deep
unfoldable pub array_of : (d : ℕ) → Text → Option (List Text)
array_of d t = do
  r ← byte 0x5B (ws t)
  alone (elements (value d) r)

-- the object that a text begins with: its members by their places
unfoldable pub members_left : (d : ℕ) → Text → Option (List Member)
members_left d t = do
  r ← byte 0x7B (ws t)
  (ms, u) ← list (member_left (value d)) 0x7D r
  Some ms
