-- The text of a value, by its first byte: what the paper asks of the text is answered in its place, so that code reads it once.
use mathlib.Core.Path.{◌≡◌, refl, sym, ap, ◌∙◌, subst}
use mathlib.Core.Bool.{true, false}
use Rattle.std.specs.Prelude.{Option, None, Some}
use mathlib.Core.List.{List, ◌∷◌}
use Prim.Native.Nat.{ℕ, suc, ◌+◌, ◌-◌, ◌≤◌}
use native.Mathlib.Omega.{arith}
use borrow.Author.Tests.{eqb-true, ne_eqb}
use lib.Dec.{eqb}
use lib.ListN.{length, take}
use Rattle.rules.specs.Bytes.{Bytes, ascii, first, among, same, is_empty}
use Rattle.rules.specs.Numbers.{is_digit}
use Rattle.rules.specs.Json.Text.{Text, Taker, behind, spelled, is_ws, ws, byte}
use Rattle.rules.specs.Json.Numbers.{digits1, minus, int, number}
use Rattle.rules.specs.Json.Strings.{string}
use Rattle.rules.specs.Json.Values.{Member, contents, elements, scalar, value, object_of, array_of}
use Rattle.rules.specs.Json.Fields.{is_null, string_of}
use Rattle.rules.proofs.Tests.{apart, by}
use Rattle.rules.proofs.Json.Suffix.{reads-fewer, answered-none}
use Rattle.rules.proofs.Json.TextReads.{before, ws-stop, byte-other, spelled-left, spelled-text}
use Rattle.rules.proofs.Json.ValueReads.{value-reads}
use Rattle.rules.proofs.Json.Steps.{value-object, value-scalar, scalar-string, object_of-contents}
use Rattle.rules.proofs.Json.Steps.{object_of-none, array_of-elements, array_of-none, alone-end}
use Rattle.rules.proofs.Json.Shadows.{behind-some}
use Rattle.rules.proofs.Json.Local.{contents-alone, elements-alone, string-alone}

-- ---- the text of a value begins as the value does

before-cons : (b : ℕ) (t r : Text) → length r ≤ length t → before (b ∷ t) r ≡ b ∷ before t r
before-cons b t r h = ap (λ (n : ℕ). take n (b ∷ t)) n
  where
    n : suc (length t) - length r ≡ suc (length t - length r)
    n = omega arith

module _ (d b : ℕ) (t x r : Text) (e : spelled (value d) (b ∷ t) ≡ Some (x, r)) where
  pub value-text : x ≡ b ∷ before t r
  value-text =
      let fewer : length r + 1 ≤ length (b ∷ t) = reads-fewer (value-reads d (b ∷ t) r (spelled-left (value d) (b ∷ t) e)) in
      spelled-text (value d) (b ∷ t) e ∙ before-cons b t r (omega arith)

-- ---- no value begins with white space

ws-cases : (P : ℕ → Type 0) (b : ℕ) → is_ws b ≡ true → P 0x20 → P 0x09 → P 0x0A → P 0x0D → P b
unfolding is_ws first
ws-cases P b e p q r s =
    by (eqb b 0x20) (λ h. subst P (sym (eqb-true b 0x20 h)) p) (λ h.
    by (eqb b 0x09) (λ i. subst P (sym (eqb-true b 0x09 i)) q) (λ i.
    by (eqb b 0x0A) (λ j. subst P (sym (eqb-true b 0x0A j)) r) (λ j.
    by (eqb b 0x0D) (λ k. subst P (sym (eqb-true b 0x0D k)) s) (λ k.
    let z : is_ws b ≡ false = rw (is_ws, h, i, j, k) in
    apart (cc (e, z))))))

pub value-ws : (d b : ℕ) (t : Text) → is_ws b ≡ true → value d (b ∷ t) ≡ None
unfolding scalar number minus int digits1 is_digit among
value-ws d b t e = ws-cases (λ c. value d (c ∷ t) ≡ None) b e
    (value-scalar d 0x20 t (λ h. omega arith) (λ h. omega arith))
    (value-scalar d 0x09 t (λ h. omega arith) (λ h. omega arith))
    (value-scalar d 0x0A t (λ h. omega arith) (λ h. omega arith))
    (value-scalar d 0x0D t (λ h. omega arith) (λ h. omega arith))

-- so white space is not passed over in front of its text
value-here : (d b : ℕ) (t y : Text) {r : Text} → value d (b ∷ t) ≡ Some r → ws (b ∷ y) ≡ b ∷ y
value-here d b t y e = by (is_ws b)
    (λ p. answered-none e (value-ws d b t p))
    (λ p. ws-stop b y p)

-- ---- what the text of a value holds, by a reader that begins behind its first byte

module _ {A : Type 0} (of : Text → Option A) (d b : ℕ) (t x r : Text) (e : spelled (value d) (b ∷ t) ≡ Some (x, r)) where
  inside-text : (inside : Taker A) → value d (b ∷ t) ≡ behind (inside t) → ((a : A) → inside t ≡ Some (a, r) → of (b ∷ before t r) ≡ Some a)
      → (a : A) × (inside t ≡ Some (a, r)) × (of x ≡ Some a)
  inside-text inside v h =
      let (a, f) = behind-some (inside t) (sym v ∙ spelled-left (value d) (b ∷ t) e) in
      (a, f, ap of (value-text d b t x r e) ∙ h a f)

  -- it begins with another byte than c
  other_text : (c : ℕ) → ((u : Text) → byte c (ws u) ≡ None → of u ≡ None) → (b ≡ c → ⊥) → of x ≡ None
  other_text c h n = ap of (value-text d b t x r e) ∙ h (b ∷ before t r)
      (ap (byte c) (value-here d b t (before t r) (spelled-left (value d) (b ∷ t) e)) ∙ byte-other c b (before t r) (ne_eqb b c n))

-- ---- objects

pub object_of-alone : (d : ℕ) (ms : List Member) (t r : Text) → contents (value d) t ≡ Some (ms, r) → object_of d (0x7B ∷ before t r) ≡ Some ms
unfolding ws is_ws first byte
object_of-alone d ms t r e = object_of-contents d (0x7B ∷ before t r) refl ∙ alone-end (contents-alone d ms t r e) refl

pub object-text : (d : ℕ) (t x r : Text) → spelled (value (suc d)) (0x7B ∷ t) ≡ Some (x, r)
    → (ms : List Member) × (contents (value d) t ≡ Some (ms, r)) × (object_of d x ≡ Some ms)
object-text d t x r e = inside-text (object_of d) (suc d) 0x7B t x r e (contents (value d)) (value-object (suc d) d t refl) (λ ms f. object_of-alone d ms t r f)

pub object_of-other : (c d b : ℕ) (t x r : Text) → (b ≡ 0x7B → ⊥) → spelled (value d) (b ∷ t) ≡ Some (x, r) → object_of c x ≡ None
object_of-other c d b t x r n e = other_text (object_of c) d b t x r e 0x7B (object_of-none c) n

-- ---- arrays

pub array_of-alone : (d : ℕ) (vs : List Text) (t r : Text) → elements (value d) t ≡ Some (vs, r) → array_of d (0x5B ∷ before t r) ≡ Some vs
unfolding ws is_ws first byte
array_of-alone d vs t r e = array_of-elements d (0x5B ∷ before t r) refl ∙ alone-end (elements-alone d vs t r e) refl

pub array_of-other : (c d b : ℕ) (t x r : Text) → (b ≡ 0x5B → ⊥) → spelled (value d) (b ∷ t) ≡ Some (x, r) → array_of c x ≡ None
array_of-other c d b t x r n e = other_text (array_of c) d b t x r e 0x5B (array_of-none c) n

-- ---- strings

pub string_of-alone : (s : Bytes) (t r : Text) → string t ≡ Some (s, r) → string_of (0x22 ∷ before t r) ≡ Some s
unfolding string_of byte is_empty
string_of-alone s t r e = rw (string-alone s t r e)

pub string_of-other : (b : ℕ) (y : Text) → (b ≡ 0x22 → ⊥) → string_of (b ∷ y) ≡ None
unfolding string_of
string_of-other b y n = rw (byte-other 0x22 b y (ne_eqb b 0x22 n))

pub string-text : (d : ℕ) (t x r : Text) → spelled (value d) (0x22 ∷ t) ≡ Some (x, r)
    → (s : Bytes) × (string t ≡ Some (s, r)) × (string_of x ≡ Some s)
string-text d t x r e =
    inside-text string_of d 0x22 t x r e string (value-scalar d 0x22 t (λ h. omega arith) (λ h. omega arith) ∙ scalar-string t) (λ s f. string_of-alone s t r f)

-- ---- null, true and false

pub is_null-other : (b : ℕ) (y : Text) → (b ≡ 0x6E → ⊥) → is_null (b ∷ y) ≡ false
unfolding is_null same ascii
is_null-other b y n = rw (is_null, same, ne_eqb b 0x6E n)

-- ---- whole numbers
