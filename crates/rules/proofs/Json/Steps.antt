-- How strings, containers and values go on, by the byte or the item that they begin with: no bound is left in these laws.
use mathlib.Core.Path.{◌≡◌, refl, sym, ap, ◌∙◌}
use Rattle.std.specs.Prelude.{Option, None, Some}
use mathlib.Core.List.{List, [], ◌∷◌, ◌++◌}
use Prim.Native.Nat.{ℕ, zero, suc, ◌+◌, ◌-◌, ◌≤◌}
use native.Mathlib.Omega.{arith}
use borrow.Author.Tests.{eq-eqb, ne_eqb}
use lib.ListN.{length, take}
use Rattle.rules.specs.Bytes.{Bytes, ascii, ◌>>=◌, is_empty}
use Rattle.rules.specs.Json.Text.{Text, Reader, Taker, behind, spelled, ws, byte, word}
use Rattle.rules.specs.Json.Numbers.{number}
use Rattle.rules.specs.Json.Strings.{unescaped, escaped, utf8, char, chars, string}
use Rattle.rules.specs.Json.Values.{closed, onward, neither, opened_by, opening, closed_by, closing, and_then, after_item, items, items_behind}
use Rattle.rules.specs.Json.Values.{list, colon, member, contents, elements, scalar, value_by, value, alone, object_of, array_of}
use Rattle.rules.proofs.Json.Suffix.{EachTakes, reads-fewer}
use Rattle.rules.proofs.Json.StringReads.{char-reads, chars-char, chars-none, string-bound}
use Rattle.rules.proofs.Json.ValueReads.{closing-onward, items-bound}

-- ---- characters

pub char-escape : (t : Text) → char (0x5C ∷ t) ≡ (escaped t >>= (λ p. Some (utf8 p.0, p.1)))
unfolding char
char-escape t = refl

pub char-plain : (b : ℕ) (t : Text) → (b ≡ 0x5C → ⊥) → char (b ∷ t) ≡ spelled unescaped (b ∷ t)
unfolding char
char-plain b t n = rw (char, ne_eqb b 0x5C n)

-- ---- strings, behind the opening quote

pub string-end : string [] ≡ None
unfolding string chars
string-end = refl

pub string-quote : (t : Text) → string (0x22 ∷ t) ≡ Some ([], t)
unfolding string chars
string-quote t = refl

pub string-none : (b : ℕ) (t : Text) → (b ≡ 0x22 → ⊥) → char (b ∷ t) ≡ None → string (b ∷ t) ≡ None
unfolding string
string-none b t n e = chars-none (length (b ∷ t)) b t (ne_eqb b 0x22 n) e

pub string-char : (b : ℕ) (t : Text) {r : Text} {x : Bytes} → (b ≡ 0x22 → ⊥) → char (b ∷ t) ≡ Some (x, r)
    → string (b ∷ t) ≡ (string r >>= (λ p. Some (x ++ p.0, p.1)))
unfolding string
string-char b t {r} {x} n e =
    let fewer : length r + 1 ≤ length (b ∷ t) = reads-fewer (char-reads x (b ∷ t) r e) in
    chars-char (length (b ∷ t)) b t (ne_eqb b 0x22 n) e ∙ ap (λ o. o >>= (λ p. Some (x ++ p.0, p.1))) (sym (string-bound (length (b ∷ t)) r (omega arith)))

-- ---- what stands behind the opening byte and behind an item, by the first byte that is no white space

module _ (close : ℕ) (t : Text) where
  pub opening-end : ws t ≡ [] → opening close t ≡ neither
  unfolding opening opened_by
  opening-end e = rw (opening, e)

  pub opening-close : {u : Text} → ws t ≡ close ∷ u → opening close t ≡ closed u
  unfolding opening opened_by
  opening-close e = rw (opening, e, opened_by, eq-eqb close close refl)

  pub opening-item : {b : ℕ} {u : Text} → ws t ≡ b ∷ u → (b ≡ close → ⊥) → opening close t ≡ onward (b ∷ u)
  unfolding opening opened_by
  opening-item {b} e n = rw (opening, e, opened_by, ne_eqb b close n)

  pub closing_end : ws t ≡ [] → closing close t ≡ neither
  unfolding closing closed_by
  closing_end e = rw (closing, e)

  pub closing-close : {u : Text} → ws t ≡ close ∷ u → closing close t ≡ closed u
  unfolding closing closed_by
  closing-close e = rw (closing, e, closed_by, eq-eqb close close refl)

  pub closing-comma : {u : Text} → ws t ≡ 0x2C ∷ u → (0x2C ≡ close → ⊥) → closing close t ≡ onward (ws u)
  unfolding closing closed_by
  closing-comma e n = rw (closing, e, closed_by, ne_eqb 0x2C close n)

  pub closing-other : {b : ℕ} {u : Text} → ws t ≡ b ∷ u → (b ≡ close → ⊥) → (b ≡ 0x2C → ⊥) → closing close t ≡ neither
  unfolding closing closed_by
  closing-other {b} e n m = rw (closing, e, closed_by, ne_eqb b close n, ne_eqb b 0x2C m)

pub colon-some : (t : Text) {u : Text} → byte 0x3A (ws t) ≡ Some u → colon t ≡ Some (ws u)
unfolding colon
colon-some t e = rw (colon, e)

pub colon-none : (t : Text) → byte 0x3A (ws t) ≡ None → colon t ≡ None
unfolding colon
colon-none t e = rw (colon, e)

-- ---- items

-- the items that are left, one at least
abbrev pub rest : {A : Type 0} → Taker A → (close : ℕ) → Taker (List A)
rest item close t = items item close (suc (length t)) t

module _ {A : Type 0} (item : Taker A) (close : ℕ) (t : Text) where
  pub list-closed : {u : Text} → opening close t ≡ closed u → list item close t ≡ Some ([], u)
  unfolding list items_behind
  list-closed e = rw (list, e)

  pub list-onward : {u : Text} → opening close t ≡ onward u → list item close t ≡ rest item close u
  unfolding list items_behind
  list-onward e = rw (list, e)

  pub list-neither : opening close t ≡ neither → list item close t ≡ None
  unfolding list items_behind
  list-neither e = rw (list, e)

  pub rest-none : item t ≡ None → rest item close t ≡ None
  unfolding items
  rest-none e = rw (items, e)

  module _ {x : A} {r : Text} (e : item t ≡ Some (x, r)) where
    pub rest-closed : {u : Text} → closing close r ≡ closed u → rest item close t ≡ Some (x ∷ [], u)
    unfolding items after_item
    rest-closed f = rw (items, e, f)

    pub rest-neither : closing close r ≡ neither → rest item close t ≡ None
    unfolding items after_item
    rest-neither f = rw (items, e, f)

    pub rest-onward : EachTakes 1 item → {u : Text} → closing close r ≡ onward u → rest item close t ≡ and_then x (rest item close u)
    unfolding items after_item
    rest-onward each {u} f =
        let fewer : length r + 1 ≤ length t = reads-fewer (each x t r e) in
        let fewer-yet : length u + 1 ≤ length r = reads-fewer (closing-onward close r u f) in
        let once : items item close (suc (length t)) t ≡ and_then x (items item close (length t) u) = rw (items, e, f) in
        once ∙ ap (and_then x) (items-bound item close each u (length t) (suc (length u)) (omega arith) (omega arith))

-- ---- members and elements

pub contents-list : (read : Reader) (t : Text) → contents read t ≡ list (member read) 0x7D t
unfolding contents
contents-list read t = refl

pub elements-list : (read : Reader) (t : Text) → elements read t ≡ list (spelled read) 0x5D t
unfolding elements
elements-list read t = refl

pub member-some : (read : Reader) (t : Text) {n r v u : Text} {name : Bytes} → byte 0x22 t ≡ Some n → string n ≡ Some (name, r) → colon r ≡ Some v
    → read v ≡ Some u
    → member read t ≡ Some ((name, take (length v - length u) v), u)
unfolding member spelled
member-some read t a b c d = rw (member, a, b, c, spelled, d)

-- ---- values

pub value-end : (d : ℕ) → value d [] ≡ None
unfolding value value_by
value-end zero = refl
value-end (suc d) = refl

-- one deeper, c deep inside
pub value-object : (d c : ℕ) (t : Text) → d ≡ suc c → value d (0x7B ∷ t) ≡ behind (contents (value c) t)
unfolding value value_by
value-object d c t e = ap (λ (n : ℕ). value n (0x7B ∷ t)) e

pub value-array : (d c : ℕ) (t : Text) → d ≡ suc c → value d (0x5B ∷ t) ≡ behind (elements (value c) t)
unfolding value value_by
value-array d c t e = ap (λ (n : ℕ). value n (0x5B ∷ t)) e

-- no deeper
pub value-no-object : (d : ℕ) (t : Text) → d ≡ 0 → value d (0x7B ∷ t) ≡ None
unfolding value value_by
value-no-object d t e = ap (λ (n : ℕ). value n (0x7B ∷ t)) e

pub value-no-array : (d : ℕ) (t : Text) → d ≡ 0 → value d (0x5B ∷ t) ≡ None
unfolding value value_by
value-no-array d t e = ap (λ (n : ℕ). value n (0x5B ∷ t)) e

pub value-scalar : (d b : ℕ) (t : Text) → (b ≡ 0x7B → ⊥) → (b ≡ 0x5B → ⊥) → value d (b ∷ t) ≡ scalar (b ∷ t)
unfolding value value_by
value-scalar zero b t m n = rw (value_by, ne_eqb b 0x7B m, ne_eqb b 0x5B n)
value-scalar (suc d) b t m n = rw (value_by, ne_eqb b 0x7B m, ne_eqb b 0x5B n)

pub scalar-string : (t : Text) → scalar (0x22 ∷ t) ≡ behind (string t)
unfolding scalar
scalar-string t = refl

pub scalar-false : (t : Text) → scalar (0x66 ∷ t) ≡ word (ascii "alse") t
unfolding scalar
scalar-false t = refl

pub scalar-null : (t : Text) → scalar (0x6E ∷ t) ≡ word (ascii "ull") t
unfolding scalar
scalar-null t = refl

pub scalar-true : (t : Text) → scalar (0x74 ∷ t) ≡ word (ascii "rue") t
unfolding scalar
scalar-true t = refl

pub scalar-number : (b : ℕ) (t : Text) → (b ≡ 0x22 → ⊥) → (b ≡ 0x66 → ⊥) → (b ≡ 0x6E → ⊥) → (b ≡ 0x74 → ⊥) → scalar (b ∷ t) ≡ number (b ∷ t)
unfolding scalar
scalar-number b t q f n w = rw (scalar, ne_eqb b 0x22 q, ne_eqb b 0x66 f, ne_eqb b 0x6E n, ne_eqb b 0x74 w)

-- ---- a text that is one object, or one array

module _ {A : Type 0} {o : Option (A × Text)} where
  pub alone-none : o ≡ None → alone o ≡ None
  unfolding alone
  alone-none e = rw (alone, e)

  pub alone-end : {x : A} {u : Text} → o ≡ Some (x, u) → ws u ≡ [] → alone o ≡ Some x
  unfolding alone is_empty
  alone-end e f = rw (alone, e, f)

  pub alone-more : {x : A} {b : ℕ} {u w : Text} → o ≡ Some (x, u) → ws u ≡ b ∷ w → alone o ≡ None
  unfolding alone is_empty
  alone-more e f = rw (alone, e, f)

pub object_of-contents : (d : ℕ) (t : Text) {r : Text} → byte 0x7B (ws t) ≡ Some r → object_of d t ≡ alone (contents (value d) r)
unfolding object_of
object_of-contents d t e = rw (object_of, e)

pub object_of-none : (d : ℕ) (t : Text) → byte 0x7B (ws t) ≡ None → object_of d t ≡ None
unfolding object_of
object_of-none d t e = rw (object_of, e)

pub array_of-elements : (d : ℕ) (t : Text) {r : Text} → byte 0x5B (ws t) ≡ Some r → array_of d t ≡ alone (elements (value d) r)
unfolding array_of
array_of-elements d t e = rw (array_of, e)

pub array_of-none : (d : ℕ) (t : Text) → byte 0x5B (ws t) ≡ None → array_of d t ≡ None
unfolding array_of
array_of-none d t e = rw (array_of, e)
