-- A string looks at nothing behind its closing quote: so the text of a value is a string just where one that ends with the value is read in its place.
use mathlib.Core.Path.{◌≡◌, refl, sym, ap, ◌∙◌}
use Rattle.std.specs.Prelude.{Option, None, Some}
use mathlib.Core.List.{[], ◌∷◌, ◌++◌}
use Prim.Native.Nat.{ℕ, suc, ◌+◌, ◌-◌, ◌≤◌}
use native.Mathlib.Omega.{arith}
use borrow.Author.Tests.{eqb-true}
use lib.Dec.{eqb}
use lib.ListN.{length, take, drop, length-drop}
use lib.Seq.{length-take-le}
use Rattle.facts.specs.Parts.{part}
use Rattle.facts.proofs.Parts.{part-rest}
use Rattle.rules.specs.Bytes.{Bytes, ◌>>=◌, guard, is_empty}
use Rattle.rules.specs.Json.Text.{Text, behind, byte}
use Rattle.rules.specs.Json.Strings.{string}
use Rattle.rules.specs.Json.Fields.{string_of}
use Rattle.rules.proofs.Tests.{apart, by}
use Rattle.rules.proofs.Json.Suffix.{some_same, bound, answered-none}
use Rattle.rules.proofs.Json.Extends.{string-extends}
use Rattle.rules.proofs.Json.TextReads.{byte-same, byte-other}
use Rattle.rules.proofs.Json.Shadows.{behind-some}
use Rattle.rules.proofs.Json.Places.{string_of-place}
use Rattle.json_strings.specs.Decoded.{decoded}
use Rattle.json_strings.proofs.Decoding.{decoded-some}
use Rattle.field_scalars.specs.Texts.{Read}

-- ---- more text behind it

pub byte-text : (c : ℕ) (t : Text) {u : Text} → byte c t ≡ Some u → t ≡ c ∷ u
unfolding byte
byte-text c [] e = apart (cc)
byte-text c (b ∷ t) {u} e = by (eqb b c)
    (λ p. rw (eqb-true b c p) (ap (λ (w : Text). c ∷ w) (some_same (sym (byte-same c b t p) ∙ e))))
    (λ p. answered-none e (byte-other c b t p))

byte-here : (t : Text) → byte 0x22 (0x22 ∷ t) ≡ Some t
unfolding byte
byte-here t = refl

empty-is : (t : Text) → guard (is_empty t) ≡ Some tt → t ≡ []
unfolding is_empty
empty-is [] e = refl
empty-is (b ∷ t) e = apart (cc)

pub string-behind : (v u : Text) {x : Bytes} → string_of v ≡ Some x → (byte 0x22 (v ++ u) >>= string) ≡ Some (x, u)
unfolding string_of
string-behind v u {x} e =
    bound (byte 0x22 v) _ e (λ t h k.
    bound (string t) _ k (λ q i j.
    bound (guard (is_empty q.1)) _ j (λ _ l m.
    ap (λ (w : Text). byte 0x22 (w ++ u) >>= string) (byte-text 0x22 v h)
    ∙ ap (λ o. o >>= string) (byte-here (t ++ u))
    ∙ string-extends (length t) t u (omega arith) (i ∙ ap (λ (w : Text). Some (q.0, w)) (empty-is q.1 l))
    ∙ ap (λ (y : Bytes). Some (y, u)) (some_same m))))

-- ---- in its place, from v to e

module _ (s : Text) (v e : ℕ) (h : v ≤ e) where
  text : Text
  text = take (e - v) (drop v s)

  string_of-unless : ((x : Bytes) → (byte 0x22 (drop v s) >>= string) ≡ Some (x, drop e s) → ⊥) → string_of text ≡ None
  unfolding text part
  string_of-unless f = go (string_of text) refl
    where
      go : (o : Option Bytes) → string_of text ≡ o → string_of text ≡ None
      go None p = p
      go (Some x) p = absurd (f x (ap (λ (w : Text). byte 0x22 w >>= string) (sym (part-rest s v e h)) ∙ string-behind text (drop e s) p))

  pub string_of-none : (byte 0x22 (drop v s) >>= string) ≡ None → string_of (take (e - v) (drop v s)) ≡ None
  unfolding text
  string_of-none n = string_of-unless (λ x p. answered-none p n)

  pub string_of-ends : e ≤ length s → (i j : ℕ) → j ≤ length s → (j ≡ e → ⊥) → byte 0x22 (drop v s) ≡ Some (drop i s)
      → behind (string (drop i s)) ≡ Some (drop j s)
      → string_of (take (e - v) (drop v s)) ≡ None
  unfolding text
  string_of-ends k i j l n b f = string_of-unless (λ x p. n (same_end x p))
    where
      same_end : (x : Bytes) → (byte 0x22 (drop v s) >>= string) ≡ Some (x, drop e s) → j ≡ e
      same_end x p =
          let (y, g) = behind-some (string (drop i s)) f in
          let q : drop j s ≡ drop e s = ap (λ (z : Bytes × Text). z.1) (some_same (sym (ap (λ o. o >>= string) b ∙ g) ∙ p)) in
          let m : length s - j ≡ length s - e = sym (length-drop j s) ∙ ap length q ∙ length-drop e s in
          omega arith

  string_of-there : e ≤ length s → (i : ℕ) (y : Bytes) → v + 1 ≤ i → i + 1 ≤ e → byte 0x22 (drop v s) ≡ Some (drop i s) → string (drop i s) ≡ Some (y, drop e s)
      → string_of (take (e - v) (drop v s)) ≡ Some y
  string_of-there k i y l n b f =
      let q : drop v s ≡ 0x22 ∷ drop i s = byte-text 0x22 (drop v s) b in
      let m : length s - v ≡ suc (length s - i) = sym (length-drop v s) ∙ ap length q ∙ ap suc (length-drop i s) in
      let next : i ≡ v + 1 = omega arith in
      string_of-place s v e (omega arith) k y (q ∙ ap (λ (w : ℕ). 0x22 ∷ drop w s) next) (sym (ap (λ (w : ℕ). string (drop w s)) next) ∙ f)

  pub string-read : e ≤ length s → (i j : ℕ) → j ≡ e → v + 1 ≤ i → i + 1 ≤ j → byte 0x22 (drop v s) ≡ Some (drop i s)
      → behind (string (drop i s)) ≡ Some (drop j s)
      → Read (string_of (take (e - v) (drop v s))) s i
  string-read k i j p l n b f =
      let (y, g) = behind-some (string (drop i s)) f in
      record {
        spelled = record { end = j; closed = f };
        says = string_of-there k i y l (omega arith) b (g ∙ ap (λ (w : ℕ). Some (y, drop w s)) p) ∙ ap Some (sym (decoded-some (drop i s) g));
      }

-- as many bytes as stand between the quotes
pub plain_size : (s : Text) (i j : ℕ) → i + 1 ≤ j → j ≤ length s → string (drop i s) ≡ Some (take (j - 1 - i) (drop i s), drop j s)
    → j - 1 - i ≡ length (decoded (drop i s))
plain_size s i j h k f =
    let fits : j - 1 - i ≤ length (drop i s) = omega (arith, length-drop i s) in
    sym (ap length (decoded-some (drop i s) f) ∙ length-take-le (j - 1 - i) (drop i s) fits)
