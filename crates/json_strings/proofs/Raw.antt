-- A well spelled string read byte by byte gives what `string` gives: the bytes of a longer character are no quote and no backslash.
use mathlib.Core.Path.{◌≡◌, refl, sym, ap, ◌∙◌, subst}
use mathlib.Core.Bool.{true, false}
use Rattle.std.specs.Prelude.{Option, None, Some}
use mathlib.Core.List.{[], ◌∷◌, ◌++◌}
use Prim.Native.Nat.{ℕ, zero, suc, ◌-◌, ◌<◌}
use native.Mathlib.Omega.{arith}
use borrow.Author.Tests.{eqb-true, eqb-false, ltb-true, ltb-false}
use lib.Dec.{eqb, ltb}
use lib.ListN.{length, take, drop, length-append, drop_of_length-le}
use lib.Seq.{take_at}
use Rattle.facts.specs.Lists.{All}
use Rattle.rules.specs.Bytes.{Bytes, among}
use Rattle.rules.specs.Json.Text.{Text, behind, spelled, byte_in}
use Rattle.rules.specs.Json.Strings.{tails, leads, is_plain, multibyte, unescaped, escaped, char, chars, string}
use Rattle.rules.proofs.Ranges.{among-true}
use Rattle.rules.proofs.Json.Plain.{plain-quote, plain-backslash}
use Rattle.rules.proofs.Tests.{by, apart}
use Rattle.rules.proofs.Json.Suffix.{some_same, value_same, bound, answered-none}
use Rattle.rules.proofs.Json.TextReads.{spelled-left, spelled-text}
use Rattle.rules.proofs.Json.Steps.{char-escape, char-plain, string-end}
use Rattle.rules.proofs.Json.StringReads.{chars-quote, chars-char, chars-none}
use Rattle.json_strings.specs.Decoded.{bytes_of, decoded, WellSpelled}
use Rattle.json_strings.specs.Flat.{flat}
use Rattle.rules.proofs.Firsts.{first-answers}
use Rattle.json_strings.proofs.Flat.{flat-quote, flat-itself, flat-escape}

-- from t to r each byte stands for itself
record Passes (t r : Text) : Type 0 where
  passed : Bytes
  split : t ≡ passed ++ r
  stands : flat t ≡ passed ++ flat r

passes_none : {t : Text} → Passes t t
passes_none = record { passed = []; split = refl; stands = refl }

passes-byte : {b : ℕ} {t r : Text} → (b ≡ 0x22 → ⊥) → (b ≡ 0x5C → ⊥) → Passes t r → Passes (b ∷ t) r
passes-byte {b} {t} q e h = record {
  passed = b ∷ h.passed;
  split = ap (λ (x : Bytes). b ∷ x) h.split;
  stands = flat-itself b t q e ∙ ap (λ (x : Bytes). b ∷ x) h.stands;
}

-- bytes above the backslash
passes-above : {b : ℕ} {t r : Text} → 0x5C < b → Passes t r → Passes (b ∷ t) r
passes-above l h = passes-byte (λ e. omega arith) (λ e. omega arith) h

byte_in-passes : (lo hi : ℕ) (t : Text) {u r : Text} → 0x5C < lo → byte_in lo hi t ≡ Some u → Passes u r → Passes t r
unfolding byte_in
byte_in-passes lo hi [] l e h = apart (cc)
byte_in-passes lo hi (b ∷ t) {u} {r} l e h = by (among lo hi b)
    (λ p. passes-above (omega (arith, (among-true lo hi b p).0)) (subst (λ (x : Text). Passes x r) (sym (some_same (rw (byte_in, p) at e))) h))
    (λ p. answered-none e (rw (byte_in, p)))

tails-passes : (n : ℕ) (t : Text) {r : Text} → tails n t ≡ Some r → Passes t r
unfolding tails
tails-passes zero t e = subst (Passes t) (some_same e) passes_none
tails-passes (suc n) t e = bound (byte_in 0x80 0xBF t) _ e (λ u p q. byte_in-passes 0x80 0xBF t (omega arith) p (tails-passes n u q))

-- a first byte and its second are above the backslash
abbrev Above : ℕ → ℕ × ℕ × ℕ → Type 0
Above b p = (0x5C < b) × (0x5C < p.0)

leads-above : (b : ℕ) {p : ℕ × ℕ × ℕ} → leads b ≡ Some p → Above b p
unfolding leads All
leads-above b e = first-answers (Above b) _ (
  among-above 0xC2 0xDF (0x80, 0xBF, 0) (omega arith) (omega arith),
  (
    is-above 0xE0 (0xA0, 0xBF, 1) (omega arith) (omega arith),
    (
      among-above 0xE1 0xEC (0x80, 0xBF, 1) (omega arith) (omega arith),
      (
        is-above 0xED (0x80, 0x9F, 1) (omega arith) (omega arith),
        (
          among-above 0xEE 0xEF (0x80, 0xBF, 1) (omega arith) (omega arith),
          (
            is-above 0xF0 (0x90, 0xBF, 2) (omega arith) (omega arith),
            (
              among-above 0xF1 0xF3 (0x80, 0xBF, 2) (omega arith) (omega arith),
              (
                is-above 0xF4 (0x80, 0x8F, 2) (omega arith) (omega arith),
                tt,
              ),
            ),
          ),
        ),
      ),
    ),
  ),
) e
  where
    above : (a : ℕ × ℕ × ℕ) → 0x5C < a.0 → 0x5C < b → (x : ℕ × ℕ × ℕ) → Some a ≡ Some x → Above b x
    above a l k x f = (k, omega (arith, ap (λ (p : ℕ × ℕ × ℕ). p.0) (some_same f)))

    among-above : (lo hi : ℕ) (a : ℕ × ℕ × ℕ) → 0x5C < lo → 0x5C < a.0 → among lo hi b ≡ true → (x : ℕ × ℕ × ℕ) → Some a ≡ Some x → Above b x
    among-above lo hi a l k h = above a k (omega (arith, (among-true lo hi b h).0))

    is-above : (n : ℕ) (a : ℕ × ℕ × ℕ) → 0x5C < n → 0x5C < a.0 → eqb b n ≡ true → (x : ℕ × ℕ × ℕ) → Some a ≡ Some x → Above b x
    is-above n a l k h = above a k (omega (arith, eqb-true b n h))

multibyte-passes : (t : Text) {r : Text} → multibyte t ≡ Some r → Passes t r
unfolding multibyte
multibyte-passes [] e = apart (cc)
multibyte-passes (b ∷ t) e = bound (leads b) _ e (λ p h k.
    let a : Above b p = leads-above b h in
    bound (byte_in p.0 p.1 t) _ k (λ u i j. passes-above a.0 (byte_in-passes p.0 p.1 t a.1 i (tails-passes p.2 u j))))

unescaped-passes : (t : Text) {r : Text} → unescaped t ≡ Some r → Passes t r
unfolding unescaped
unescaped-passes [] e = apart (cc)
unescaped-passes (b ∷ t) {r} e = by (is_plain b)
    (λ p. passes-byte (plain-quote p) (plain-backslash p) (subst (Passes t) (some_same (sym (rw (unescaped, p)) ∙ e)) passes_none))
    (λ p. multibyte-passes (b ∷ t) (sym (rw (unescaped, p)) ∙ e))

-- a character that is no escape
unescaped-flat : (t : Text) {x r : Text} → spelled unescaped t ≡ Some (x, r) → flat t ≡ x ++ flat r
unescaped-flat t {x} {r} e =
    let h : Passes t r = unescaped-passes t (spelled-left unescaped t e) in
    let n : length h.passed ≡ length t - length r = omega (arith, ap length h.split, length-append h.passed r) in
    h.stands ∙ ap (λ (y : Bytes). y ++ flat r) (sym (spelled-text unescaped t e ∙ ap (take (length t - length r)) h.split ∙ take_at h.passed r _ n))

escape-flat : (t : Text) {x r : Text} → char (0x5C ∷ t) ≡ Some (x, r) → flat (0x5C ∷ t) ≡ x ++ flat r
escape-flat t e = bound (escaped t) _ (sym (char-escape t) ∙ e) (λ p h k.
    flat-escape t h ∙ ap (λ (q : Bytes × Text). q.0 ++ flat q.1) (some_same k))

char-flat : (b : ℕ) (t : Text) {x r : Text} → char (b ∷ t) ≡ Some (x, r) → flat (b ∷ t) ≡ x ++ flat r
char-flat b t {x} {r} e = by (eqb b 0x5C)
    (λ p. subst (λ (n : ℕ). char (n ∷ t) ≡ Some (x, r) → flat (n ∷ t) ≡ x ++ flat r) (sym (eqb-true b 0x5C p)) (escape-flat t) e)
    (λ p. unescaped-flat (b ∷ t) (sym (char-plain b t (eqb-false b 0x5C p)) ∙ e))

-- ---- strings

chars-flat : (n : ℕ) (t : Text) {d : Bytes} {r : Text} → chars n t ≡ Some (d, r) → flat t ≡ d
unfolding chars
chars-flat zero t e = apart (cc)
chars-flat (suc n) [] e = apart (cc)
chars-flat (suc n) (b ∷ t) {d} {r} e = by (eqb b 0x22)
    (λ p. ap (λ (k : ℕ). flat (k ∷ t)) (eqb-true b 0x22 p) ∙ flat-quote t ∙ value_same (sym (chars-quote n b t p) ∙ e))
    (λ p. go (λ u x v h. chars-flat n u h) p (char (b ∷ t)) refl)
  where
    go : ((u : Text) (x : Bytes) (v : Text) → chars n u ≡ Some (x, v) → flat u ≡ x) → eqb b 0x22 ≡ false → (o : Option (Bytes × Text)) → char (b ∷ t) ≡ o
        → flat (b ∷ t) ≡ d
    go ih p None f = answered-none e (chars-none n b t p f)
    go ih p (Some c) f = bound (chars n c.1) _ (sym (chars-char n b t p f) ∙ e) (λ q h k.
        char-flat b t f ∙ ap (λ (x : Bytes). c.0 ++ x) (ih c.1 q.0 q.1 h) ∙ value_same k)

pub string-flat : (t : Text) {d : Bytes} {r : Text} → string t ≡ Some (d, r) → flat t ≡ d
unfolding string
string-flat t e = chars-flat (suc (length t)) t e

-- ---- a string that was found well spelled

closed-flat : (t : Text) {r : Text} (o : Option (Bytes × Text)) → string t ≡ o → behind o ≡ Some r → flat t ≡ bytes_of o
unfolding bytes_of
closed-flat t None e h = apart (cc)
closed-flat t (Some p) e h = string-flat t e

module _ {s : Text} {at : ℕ} (w : WellSpelled s at) where
  pub well-flat : flat (drop at s) ≡ decoded (drop at s)
  unfolding decoded
  well-flat = closed-flat (drop at s) (string (drop at s)) refl w.closed

  pub well-within : at < length s
  well-within = by (ltb at (length s)) (λ p. ltb-true at (length s) p) (λ p.
      answered-none w.closed (ap (λ (t : Text). behind (string t)) (drop_of_length-le s (ltb-false at (length s) p)) ∙ ap behind string-end))
