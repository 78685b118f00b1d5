-- A string stands for no more bytes than stand before its closing quote, and for fewer where it has an escape.
use mathlib.Core.Path.{◌≡◌, refl, sym, ap, ◌∙◌}
use mathlib.Core.Bool.{false}
use Rattle.std.specs.Prelude.{Option, None, Some}
use mathlib.Core.List.{[], ◌∷◌}
use Prim.Native.Nat.{ℕ, zero, suc, ◌+◌, ◌-◌, ◌≤◌}
use native.Mathlib.Omega.{arith}
use borrow.Author.Tests.{eqb-true, eqb-false}
use lib.Dec.{eqb}
use lib.ListN.{length, length-append}
use lib.Seq.{length-take-le}
use Rattle.rules.specs.Bytes.{Bytes}
use Rattle.rules.specs.Json.Text.{Text, spelled}
use Rattle.rules.specs.Json.Strings.{unescaped, escaped, char, chars, string}
use Rattle.rules.proofs.Tests.{by, apart}
use Rattle.rules.proofs.Json.Suffix.{reads-fewer, value_same, left-same, bound, answered-none}
use Rattle.rules.proofs.Json.TextReads.{spelled-left, spelled-text}
use Rattle.rules.proofs.Json.StringReads.{unescaped-reads, chars-quote, chars-char, chars-none}
use Rattle.rules.proofs.Json.Steps.{char-escape, char-plain, string-none, string-char}
use Rattle.json_strings.proofs.Sizes.{escaped-size}

-- an escape is longer than what it stands for
escape-longer : (t : Text) {x : Bytes} {r : Text} → char (0x5C ∷ t) ≡ Some (x, r) → length x + length r ≤ length t
escape-longer t e = bound (escaped t) _ (sym (char-escape t) ∙ e) (λ p h k.
    omega (arith, escaped-size t h, ap length (value_same k), ap length (left-same k)))

-- any other character is as long
unescaped-long : (t : Text) {x : Bytes} {r : Text} → spelled unescaped t ≡ Some (x, r) → length x + length r ≤ length t
unescaped-long t {x} {r} e =
    let fewer : length r + 1 ≤ length t = reads-fewer (unescaped-reads t r (spelled-left unescaped t e)) in
    let fits : length t - length r ≤ length t = omega arith in
    omega (arith, ap length (spelled-text unescaped t e), length-take-le (length t - length r) t fits)

char-long : (b : ℕ) (t : Text) {x : Bytes} {r : Text} → char (b ∷ t) ≡ Some (x, r) → length x + length r ≤ suc (length t)
char-long b t {x} {r} e = by (eqb b 0x5C)
    (λ p. let few : length x + length r ≤ length t = escape-longer t (sym (ap (λ (n : ℕ). char (n ∷ t)) (eqb-true b 0x5C p)) ∙ e) in omega arith)
    (λ p. unescaped-long (b ∷ t) (sym (char-plain b t (eqb-false b 0x5C p)) ∙ e))

chars-long : (n : ℕ) (t : Text) {x : Bytes} {r : Text} → chars n t ≡ Some (x, r) → length x + length r + 1 ≤ length t
unfolding chars
chars-long zero t e = apart (cc)
chars-long (suc n) [] e = apart (cc)
chars-long (suc n) (b ∷ t) {x} {r} e = by (eqb b 0x22)
    (λ p. let f = sym (chars-quote n b t p) ∙ e in omega (arith, ap length (value_same f), ap length (left-same f)))
    (λ p. go (λ u y v h. chars-long n u h) p (char (b ∷ t)) refl)
  where
    go : ((u : Text) (y : Bytes) (v : Text) → chars n u ≡ Some (y, v) → length y + length v + 1 ≤ length u) → eqb b 0x22 ≡ false
        → (o : Option (Bytes × Text)) → char (b ∷ t) ≡ o → length x + length r + 1 ≤ length (b ∷ t)
    go ih p None f = answered-none e (chars-none n b t p f)
    go ih p (Some c) f = bound (chars n c.1) _ (sym (chars-char n b t p f) ∙ e) (λ q h k.
        omega (arith, char-long b t f, ih c.1 q.0 q.1 h, length-append c.0 q.0, ap length (value_same k), ap length (left-same k)))

pub string-long : (t : Text) {x : Bytes} {r : Text} → string t ≡ Some (x, r) → length x + length r + 1 ≤ length t
unfolding string
string-long t e = chars-long (suc (length t)) t e

-- a string that begins with an escape
pub string-longer : (t : Text) {x : Bytes} {r : Text} → string (0x5C ∷ t) ≡ Some (x, r) → length x + length r + 1 ≤ length t
string-longer t {x} {r} e = go (char (0x5C ∷ t)) refl
  where
    go : (o : Option (Bytes × Text)) → char (0x5C ∷ t) ≡ o → length x + length r + 1 ≤ length t
    go None f = answered-none e (string-none 0x5C t (λ q. omega arith) f)
    go (Some c) f = bound (string c.1) _ (sym (string-char 0x5C t (λ q. omega arith) f) ∙ e) (λ q h k.
        omega (arith, escape-longer t f, string-long c.1 h, length-append c.0 q.0, ap length (value_same k), ap length (left-same k)))
