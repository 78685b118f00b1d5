-- Strings and their characters, by what they pass (`Reads`).
use mathlib.Core.Path.{◌≡◌, refl, sym, ap, ◌∙◌, subst}
use mathlib.Core.Bool.{Bool, true, false}
use Rattle.std.specs.Prelude.{Option, None, Some}
use mathlib.Core.List.{[], ◌∷◌, ◌++◌}
use Prim.Native.Nat.{ℕ, zero, suc, ◌+◌, ◌-◌, ◌*◌, ◌≤◌}
use native.Mathlib.Omega.{arith}
use lib.Dec.{eqb}
use lib.ListN.{length}
use Rattle.rules.specs.Bytes.{Bytes, ascii, ◌>>=◌, guard, among}
use Rattle.rules.specs.Json.Text.{Text, Reader, Taker, spelled, byte, byte_in, word}
use Rattle.rules.specs.Json.Strings.{tails, leads, is_plain, multibyte, unescaped, hex_digit, hex_digits, code_unit, Surrogate, high}
use Rattle.rules.specs.Json.Strings.{low, neither, surrogate, paired, code_point, utf8, short_escape, escaped, char, chars, string}
use Rattle.rules.proofs.Tests.{apart, by}
use Rattle.rules.proofs.Json.Suffix.{Reads, EachReads, EachTakes, reads_none, reads_byte, reads-after, reads_as, reads_made, reads_then}
use Rattle.rules.proofs.Json.Suffix.{reads-least, some_same, bound, taken, answered_byte, answered-none, answered-after, answered-as}
use Rattle.rules.proofs.Json.Bounds.{Within, EachWithin, within-reads, within-bound, within-taken, within-last, within-turn}
use Rattle.rules.proofs.Json.TextReads.{byte-same, byte-other, byte_reads, byte_in-reads, word-reads, spelled-reads}

-- ---- unescaped

pub tails-more : (n : ℕ) (t : Text) {r : Text} → byte_in 0x80 0xBF t ≡ Some r → tails (suc n) t ≡ tails n r
unfolding tails
tails-more n t e = rw (tails, e)

pub tails-none : (n : ℕ) (t : Text) → byte_in 0x80 0xBF t ≡ None → tails (suc n) t ≡ None
unfolding tails
tails-none n t e = rw (tails, e)

pub tails-reads : (n : ℕ) → EachReads n (tails n)
unfolding tails
tails-reads zero t r e = subst (Reads 0 (tails zero) Some t) (some_same e) (reads_none (λ w. refl))
tails-reads (suc n) t r e =
    bound (byte_in 0x80 0xBF t) _ e (λ u p q.
    reads-least (omega arith) (reads_then {both = tails (suc n)} (byte_in-reads 0x80 0xBF t u p) (tails-reads n u r q) (λ w x s. tails-more n w s)))

-- behind a first byte that leads as told
led : Option (ℕ × ℕ × ℕ) → Reader
led None t = None
led (Some p) t = byte_in p.0 p.1 t >>= tails p.2

led-reads : (o : Option (ℕ × ℕ × ℕ)) → EachReads 1 (led o)
unfolding led
led-reads None t r e = apart (cc)
led-reads (Some p) t r e =
    bound (byte_in p.0 p.1 t) _ e (λ u h k.
    reads-least (omega arith) (reads_then {both = led (Some p)} (byte_in-reads p.0 p.1 t u h) (tails-reads p.2 u r k) (λ w x s. rw s)))

multibyte-led : (b : ℕ) (t : Text) → multibyte (b ∷ t) ≡ led (leads b) t
unfolding multibyte led
multibyte-led b t = go (leads b)
  where
    go : (o : Option (ℕ × ℕ × ℕ)) → (o >>= (λ p. byte_in p.0 p.1 t >>= (λ r. tails p.2 r))) ≡ led o t
    go None = refl
    go (Some p) = refl

pub multibyte-reads : EachReads 2 multibyte
unfolding multibyte
multibyte-reads [] r e = apart (cc)
multibyte-reads (b ∷ t) r e = answered-after {other = led (leads b)} e (multibyte-led b) (led-reads (leads b) t r)

pub unescaped-reads : EachReads 1 unescaped
unfolding unescaped
unescaped-reads [] r e = apart (cc)
unescaped-reads (b ∷ t) r e = by (is_plain b)
    (λ p. answered_byte e (λ w. rw (unescaped, p)))
    (λ p. answered-as {other = multibyte} e (λ w. rw (unescaped, p)) (λ q. reads-least (omega arith) (multibyte-reads (b ∷ t) r q)))

-- ---- escapes

pub hex_digits-more : (n sofar b : ℕ) (t : Text) {d : ℕ} → hex_digit b ≡ Some d → hex_digits (suc n) sofar (b ∷ t) ≡ hex_digits n (sofar * 16 + d) t
unfolding hex_digits
hex_digits-more n sofar b t e = rw (hex_digits, e)

pub hex_digits-reads : (n sofar : ℕ) → EachTakes n (hex_digits n sofar)
unfolding hex_digits
hex_digits-reads zero sofar x t r e = taken e (reads_none (λ w. refl))
hex_digits-reads (suc n) sofar x [] r e = apart (cc)
hex_digits-reads (suc n) sofar x (b ∷ t) r e = bound (hex_digit b) _ e (λ d p q.
    reads-after (λ w. hex_digits-more n sofar b w p) (hex_digits-reads n (sofar * 16 + d) x t r q))

pub code_unit-reads : EachTakes 4 code_unit
unfolding code_unit
code_unit-reads x t r e = reads_made (λ w u s. s) (hex_digits-reads 4 0 x t r e)

-- the low surrogate's digits behind the high surrogate u
low_unit : (u : ℕ) → Taker ℕ
low_unit u t = code_unit t >>= (λ p. guard (among 0xDC00 0xDFFF p.0) >>= (λ _. Some (0x10000 + (u - 0xD800) * 0x400 + (p.0 - 0xDC00), p.1)))

pub paired-reads : (s : Surrogate) (u : ℕ) → EachTakes 0 (paired s u)
unfolding paired low_unit
paired-reads neither u x t r e = taken e (reads_none (λ w. refl))
paired-reads low u x t r e = apart (cc)
paired-reads high u x t r e =
    bound (word (ascii "\\u") t) _ e (λ t1 e1 h1.
    bound (code_unit t1) _ h1 (λ p e2 h2.
    bound (guard (among 0xDC00 0xDFFF p.0)) _ h2 (λ _ e3 h3.
    taken h3 (reads-least (omega arith) (reads_then {both = paired high u} {next = low_unit u} (word-reads (ascii "\\u") t t1 e1)
    (reads_made (λ w v s. rw (low_unit, s, e3)) (code_unit-reads p.0 t1 p.1 e2))
    (λ w v s. rw (paired, s)))))))

pub code_point-reads : EachTakes 4 code_point
unfolding code_point
code_point-reads x t r e =
    bound (code_unit t) _ e (λ p e1 h1.
    reads-least (omega arith) (reads_then {both = code_point} (code_unit-reads p.0 t p.1 e1) (paired-reads (surrogate p.0) p.0 x p.1 r h1)
    (λ w v s. rw (code_point, s))))

pub escaped-reads : EachTakes 1 escaped
unfolding escaped
escaped-reads x [] r e = apart (cc)
escaped-reads x (b ∷ t) r e = by (eqb b 0x75)
    (λ p. reads-least (omega arith) (answered-after {other = code_point} e (λ w. rw (escaped, p)) (code_point-reads x t r)))
    (λ p. let f : (w : Text) → escaped (b ∷ w) ≡ (short_escape b >>= (λ c. Some (c, w))) = λ w. rw (escaped, p) in
    bound (short_escape b) (λ c. Some (c, t)) (sym (f t) ∙ e) (λ c q h. taken h (reads_byte t (λ w. rw (f w, q)))))

-- ---- strings

-- behind a backslash
meant : Taker Bytes
meant t = escaped t >>= (λ p. Some (utf8 p.0, p.1))

meant-reads : EachTakes 1 meant
unfolding meant
meant-reads x t r e = bound (escaped t) _ e (λ p h k. taken k (reads_made (λ w v s. rw (meant, s)) (escaped-reads p.0 t p.1 h)))

pub char-reads : EachTakes 1 char
unfolding char meant
char-reads x [] r e = apart (cc)
char-reads x (b ∷ t) r e = by (eqb b 0x5C)
    (λ p. reads-least (omega arith) (answered-after {other = meant} e (λ w. rw (char, p)) (meant-reads x t r)))
    (λ p. answered-as {other = spelled unescaped} e (λ w. rw (char, p)) (spelled-reads unescaped-reads x (b ∷ t) r))

-- ---- the loop over characters

-- a turn, by the byte that it begins with
pub chars-quote : (n b : ℕ) (t : Text) → eqb b 0x22 ≡ true → chars (suc n) (b ∷ t) ≡ Some ([], t)
unfolding chars
chars-quote n b t e = rw (chars, e)

pub chars-char : (n b : ℕ) (t : Text) {r : Text} {x : Bytes} → eqb b 0x22 ≡ false → char (b ∷ t) ≡ Some (x, r)
    → chars (suc n) (b ∷ t) ≡ (chars n r >>= (λ p. Some (x ++ p.0, p.1)))
unfolding chars
chars-char n b t e f = rw (chars, e, f)

pub chars-none : (n b : ℕ) (t : Text) → eqb b 0x22 ≡ false → char (b ∷ t) ≡ None → chars (suc n) (b ∷ t) ≡ None
unfolding chars
chars-none n b t e f = rw (chars, e, f)

-- a character that is no quote
inner : Taker Bytes
inner [] = None
inner (b ∷ t) = elim (eqb b 0x22) [ true ↦ None | false ↦ char (b ∷ t) ]

inner-char : (b : ℕ) → eqb b 0x22 ≡ false → (w : Text) → inner (b ∷ w) ≡ char (b ∷ w)
unfolding inner
inner-char b p w = rw (inner, p)

inner-turn : (n : ℕ) (w s v : Text) (x xs : Bytes) → inner w ≡ Some (x, s) → chars n s ≡ Some (xs, v) → chars (suc n) w ≡ Some (x ++ xs, v)
unfolding inner
inner-turn n [] s v x xs e f = apart (cc)
inner-turn n (b ∷ w) s v x xs e f = by (eqb b 0x22)
    (λ p. answered-none e (rw (inner, p)))
    (λ p. chars-char n b w p (sym (inner-char b p w) ∙ e) ∙ ap (λ o. o >>= (λ q. Some (x ++ q.0, q.1))) f)

quote-turn : (n : ℕ) (w v : Text) → byte 0x22 w ≡ Some v → chars (suc n) w ≡ Some ([], v)
unfolding byte
quote-turn n [] v e = apart (cc)
quote-turn n (b ∷ w) v e = by (eqb b 0x22)
    (λ p. chars-quote n b w p ∙ ap (λ (u : Text). Some ([], u)) (some_same (sym (byte-same 0x22 b w p) ∙ e)))
    (λ p. answered-none e (byte-other 0x22 b w p))

pub chars-within : EachWithin chars
unfolding chars
chars-within zero xs t r e = apart (cc)
chars-within (suc n) xs [] r e = apart (cc)
chars-within (suc n) xs (b ∷ t) r e = go (chars-within n) (eqb b 0x22) refl (char (b ∷ t)) refl
  where
    go : ((y : Bytes) (w u : Text) → chars n w ≡ Some (y, u) → Within chars (λ v. Some (y, v)) w u)
        → (test : Bool) → eqb b 0x22 ≡ test → (o : Option (Bytes × Text)) → char (b ∷ t) ≡ o → Within chars (λ v. Some (xs, v)) (b ∷ t) r
    go ih true p o f = within-taken (sym (chars-quote n b t p) ∙ e)
        (within-last (byte_reads 0x22 (b ∷ t) t (byte-same 0x22 b t p)) quote-turn)
    go ih false p None f = answered-none e (chars-none n b t p f)
    go ih false p (Some c) f = bound (chars n c.1) _ (sym (chars-char n b t p f) ∙ e) (λ q h k.
        within-taken k (within-turn (reads_as (inner-char b p) (char-reads c.0 (b ∷ t) c.1 f)) (ih q.0 c.1 q.1 h)
        (λ m w s v g i. inner-turn m w s v c.0 q.0 g i)))

pub string-reads : EachTakes 1 string
unfolding string
string-reads xs t r e = within-reads (chars-within (suc (length t)) xs t r e)

-- a string, with any bound above the number of bytes
pub string-bound : (n : ℕ) (t : Text) → length t ≤ n → string t ≡ chars n t
unfolding string
string-bound n t l = within-bound chars-within (omega arith) l
