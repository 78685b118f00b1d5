-- How many bytes a string stands for, by how many it is spelled with: no more, and none only where there are none.
use mathlib.Core.Path.{◌≡◌, refl, sym, ap, ◌∙◌}
use Rattle.std.specs.Prelude.{Option, None, Some}
use mathlib.Core.List.{[], ◌∷◌}
use Prim.Native.Nat.{ℕ, ◌+◌, ◌-◌, ◌≤◌, ◌<◌}
use native.Mathlib.Omega.{arith}
use borrow.Author.Tests.{eqb-true, eqb-false}
use lib.Dec.{eqb}
use lib.ListN.{length, take, drop, length-append, length-drop}
use Rattle.rules.specs.Bytes.{Bytes, ◌>>=◌}
use Rattle.rules.specs.Json.Text.{Text, behind, byte}
use Rattle.rules.specs.Json.Strings.{utf8, escaped, string}
use Rattle.rules.specs.Json.Values.{value}
use Rattle.rules.specs.Json.Fields.{string_of}
use Rattle.rules.proofs.Tests.{by}
use Rattle.rules.proofs.Json.Suffix.{left-same, answered-none}
use Rattle.rules.proofs.Json.Steps.{char-escape, string-end, string-quote, string-none, value-scalar, scalar-string}
use Rattle.json_strings.specs.Flat.{flat}
use Rattle.json_strings.proofs.Flat.{flat-itself, flat-escape}
use Rattle.json_strings.proofs.Widths.{size-bounds}
use Rattle.json_strings.specs.Decoded.{decoded}
use Rattle.json_strings.proofs.Decoding.{decoded-some}
use Rattle.json_strings.proofs.Raw.{string-flat}
use Rattle.json_strings.proofs.Shorter.{string-long}
use Rattle.field_scalars.specs.Texts.{Read}
use Rattle.rules.proofs.Json.Extends.{string-extends}
use Rattle.field_scalars.proofs.Strings.{string-read}
use Rattle.field_scalars.proofs.Begins.{byte_next, inside-here, value-further}

-- a string that does not end at once stands for some bytes
string-some : (t : Text) {x : Bytes} {r : Text} → string t ≡ Some (x, r) → length r + 1 < length t → 0 < length x
string-some [] e l = answered-none e string-end
string-some (b ∷ t) {x} {r} e l = by (eqb b 0x22)
    (λ p. let ends : length t ≡ length r = ap length (left-same (sym (string-quote t) ∙ sym (ap (λ (c : ℕ). string (c ∷ t)) (eqb-true b 0x22 p)) ∙ e)) in
    absurd (omega arith))
    (λ p. by (eqb b 0x5C)
    (λ q. let f : string (0x5C ∷ t) ≡ Some (x, r) = sym (ap (λ (c : ℕ). string (c ∷ t)) (eqb-true b 0x5C q)) ∙ e in go f (escaped t) refl)
    (λ q. omega (arith, ap length (sym (flat-itself b t (eqb-false b 0x22 p) (eqb-false b 0x5C q)) ∙ string-flat (b ∷ t) e))))
  where
    go : string (0x5C ∷ t) ≡ Some (x, r) → (o : Option (ℕ × Text)) → escaped t ≡ o → 0 < length x
    go f None h = answered-none f (string-none 0x5C t (λ q. omega arith) (char-escape t ∙ ap (λ o. o >>= (λ p. Some (utf8 p.0, p.1))) h))
    go f (Some c) h =
        omega (arith, (size-bounds c.0).some, length-append (utf8 c.0) (flat c.1), ap length (sym (flat-escape t h) ∙ string-flat (0x5C ∷ t) f))

-- the text of a value from v to e that begins with a quote, i behind it
module _
    (d : ℕ)
    (s : Text)
    (v e : ℕ)
    (h : v ≤ e)
    (k : e ≤ length s)
    (w : value d (take (e - v) (drop v s)) ≡ Some [])
    (i : ℕ)
    (l : i ≤ length s)
    (b : byte 0x22 (drop v s) ≡ Some (drop i s))
  where
    quote-next : i ≡ v + 1
    quote-next = byte_next s v i 0x22 (omega arith) l b

    string-here : (x : Bytes) × (string (drop i s) ≡ Some (x, drop e s))
    string-here =
        let (x, f) = inside-here d s v e h k w 0x22 string (λ t. value-scalar d 0x22 t (λ q. omega arith) (λ q. omega arith) ∙ scalar-string t)
        (λ t u a r. string-extends (length t) t u (omega arith)) i l b in
        (x, ap (λ (j : ℕ). string (drop j s)) quote-next ∙ f)

    string-fits : length (decoded (drop i s)) + (length s - e) + 1 ≤ length s - i
    string-fits = let (x, f) = string-here in omega (arith, string-long (drop i s) f, ap length (decoded-some (drop i s) f), length-drop e s, length-drop i s)

    pub quoted-ends : i + 1 ≤ e
    quoted-ends = omega (arith, string-fits, value-further d s v e h k w)

    pub quoted-read : Read (string_of (take (e - v) (drop v s))) s i
    quoted-read =
        let (x, f) = string-here in
        string-read s v e h k i e refl (omega (arith, quote-next)) quoted-ends b (ap behind f)

    pub quoted-most : length (decoded (drop i s)) ≤ e - 1 - i
    quoted-most = omega (arith, string-fits)

    pub quoted-least : (e - 1 - i ≡ 0 → ⊥) → (length (decoded (drop i s)) ≡ 0 → ⊥)
    quoted-least n z =
        let (x, f) = string-here in
        let far : (e - 1 - i ≡ 0 → ⊥) → 1 < e - i =
        λ m. by (eqb (e - 1 - i) 0) (λ p. absurd (m (eqb-true (e - 1 - i) 0 p))) (λ p. omega (arith, eqb-false (e - 1 - i) 0 p)) in
        omega (arith, string-some (drop i s) f (omega (arith, far n, length-drop e s, length-drop i s)), ap length (decoded-some (drop i s) f))
