-- An element of an array that is a string, and one that is none, at a position of a text.
use mathlib.Core.Path.{◌≡◌, refl, sym, ap, ◌∙◌}
use Rattle.std.specs.Prelude.{Option, None, Some}
use mathlib.Core.List.{List, [], ◌∷◌}
use Prim.Native.Nat.{ℕ, ◌+◌, ◌-◌, ◌≤◌}
use native.Mathlib.Omega.{arith}
use borrow.Author.Tests.{eqb-true, eqb-false}
use lib.Dec.{eqb}
use lib.ListN.{take, drop}
use Rattle.rules.specs.Bytes.{Bytes, ◌>>=◌}
use Rattle.rules.specs.Json.Text.{Text, behind, spelled, byte}
use Rattle.rules.specs.Json.Strings.{string}
use Rattle.rules.specs.Json.Values.{Behind, closed, onward, neither, closing, and_then, value}
use Rattle.rules.specs.Json.Fields.{string_of, strings}
use Rattle.rules.proofs.Tests.{apart, by}
use Rattle.rules.proofs.Json.Suffix.{some_same, value_same, answered-none, bound}
use Rattle.rules.proofs.Json.TextReads.{before, byte-same, byte-other, spelled-left, spelled-reads}
use Rattle.rules.proofs.Json.ValueReads.{value-reads}
use Rattle.rules.proofs.Json.Steps.{value-end, value-scalar, scalar-string, rest, rest-none, rest-closed, rest-neither, rest-onward}
use Rattle.rules.proofs.Json.Joined.{joined}
use Rattle.rules.proofs.Json.InPlace.{value-text, string-text, string_of-other}
use Rattle.rules.proofs.Json.Fields.{strings-none}
use Rattle.rules.proofs.Json.Places.{spelled-place}
use Rattle.field_names.specs.Spelled.{name_in, Quoted}
use Rattle.field_names.specs.declared.keys.Spell.{Spell}
use Rattle.field_names.proofs.Quoting.{named-string}

byte-first : (c : ℕ) (t : Text) {r : Text} → byte c t ≡ Some r → t ≡ c ∷ r
unfolding byte
byte-first c [] e = apart (cc)
byte-first c (b ∷ t) e = by (eqb b c)
    (λ p. ap (λ (x : ℕ). x ∷ t) (eqb-true b c p) ∙ ap (λ (u : Text). c ∷ u) (some_same (sym (byte-same c b t p) ∙ e)))
    (λ p. answered-none e (byte-other c b t p))

value-string : (d : ℕ) (t : Text) → value d (0x22 ∷ t) ≡ behind (string t)
value-string d t = value-scalar d 0x22 t (λ h. omega arith) (λ h. omega arith) ∙ scalar-string t

-- ---- a string

module _ (d : ℕ) (s : Text) (i : ℕ) (n : Spell) (q : Quoted s i n) where
  pub element-string : spelled (value d) (drop i s) ≡ Some (take (n.end - i) (drop i s), drop n.end s)
  element-string =
      let low : i + 1 ≤ n.at = q.from in
      let high : n.at + 1 ≤ n.end = q.named.from in
      spelled-place s i n.end (omega arith) q.named.within (value d)
      (ap (value d) (byte-first 0x22 (drop i s) q.quote) ∙ value-string d (drop n.at s) ∙ q.named.closed)

  pub element-bytes : string_of (take (n.end - i) (drop i s)) ≡ Some (name_in s n)
  element-bytes =
      let (b, f, g) = string-text d (drop n.at s) _ _ (ap (spelled (value d)) (sym (byte-first 0x22 (drop i s) q.quote)) ∙ element-string) in
      g ∙ ap Some (value_same (sym f ∙ named-string s n q.named))

-- ---- another value

no-string : (d : ℕ) (t x r : Text) → (byte 0x22 t >>= string) ≡ None → spelled (value d) t ≡ Some (x, r) → string_of x ≡ None
no-string d [] x r e f = answered-none (spelled-left (value d) [] f) (value-end d)
no-string d (b ∷ t) x r e f = by (eqb b 0x22)
    (λ p.
    let nothing : string t ≡ None = sym (ap (λ (o : Option Text). o >>= string) (byte-same 0x22 b t p)) ∙ e in
    answered-none (spelled-left (value d) (b ∷ t) f) (ap (λ (c : ℕ). value d (c ∷ t)) (eqb-true b 0x22 p) ∙ value-string d t ∙ ap behind nothing))
    (λ p. ap string_of (value-text d b t x r f) ∙ string_of-other b (before t r) (eqb-false b 0x22 p))

-- the strings of what was read
abbrev pub read-strings : Option (List Text × Text) → Option (List Bytes)
read-strings o = o >>= (λ p. strings p.0)

-- with one element that is no string, whatever stands behind it
module _ (d : ℕ) (gone : List Text) (t x r : Text) (e : spelled (value d) t ≡ Some (x, r)) (f : string_of x ≡ None) where
  more-refused : (o : Option (List Text × Text)) → read-strings (joined gone (and_then x o)) ≡ None
  unfolding and_then
  more-refused None = refl
  more-refused (Some p) = strings-none gone x p.0 f

  refused : read-strings (joined gone (rest (spelled (value d)) 0x5D t)) ≡ None
  refused = go (closing 0x5D r) refl
    where
      go : (c : Behind) → closing 0x5D r ≡ c → read-strings (joined gone (rest (spelled (value d)) 0x5D t)) ≡ None
      go (closed u) c = ap (λ o. read-strings (joined gone o)) (rest-closed (spelled (value d)) 0x5D t e c) ∙ strings-none gone x [] f
      go (onward u) c =
          ap (λ o. read-strings (joined gone o)) (rest-onward (spelled (value d)) 0x5D t e (spelled-reads (value-reads d)) c)
          ∙ more-refused (rest (spelled (value d)) 0x5D u)
      go neither c = ap (λ o. read-strings (joined gone o)) (rest-neither (spelled (value d)) 0x5D t e c)

pub no-strings : (d : ℕ) (gone : List Text) (t : Text) → (byte 0x22 t >>= string) ≡ None → read-strings (joined gone (rest (spelled (value d)) 0x5D t)) ≡ None
no-strings d gone t e = go (spelled (value d) t) refl
  where
    go : (o : Option (Text × Text)) → spelled (value d) t ≡ o → read-strings (joined gone (rest (spelled (value d)) 0x5D t)) ≡ None
    go None p = ap (λ o. read-strings (joined gone o)) (rest-none (spelled (value d)) 0x5D t p)
    go (Some y) p = refused d gone t y.0 y.1 p (no-string d t y.0 y.1 e p)

-- the first string of some
pub strings-first : (v : Text) (vs : List Text) {b : Bytes} {ss : List Bytes} → strings (v ∷ vs) ≡ Some ss → string_of v ≡ Some b
    → (more : List Bytes) × (ss ≡ b ∷ more) × (strings vs ≡ Some more)
unfolding strings
strings-first v vs e f =
    bound (string_of v) _ e (λ x g h.
    bound (strings vs) _ h (λ more k l.
    (more, sym (some_same l) ∙ ap (λ (y : Bytes). y ∷ more) (some_same (sym g ∙ f)), k)))
