-- White space, bytes, words and spelled texts, by what they pass (`Reads`).
use mathlib.Core.Path.{◌≡◌, refl, sym, ap, ◌∙◌, subst}
use mathlib.Core.Bool.{Bool, true, false}
use Rattle.std.specs.Prelude.{None, Some}
use mathlib.Core.List.{[], ◌∷◌, ◌++◌}
use Prim.Native.Nat.{ℕ, suc, ◌-◌}
use native.Mathlib.Omega.{arith}
use borrow.Author.Tests.{eqb-true}
use lib.Dec.{eqb}
use lib.ListN.{length, take, length-append}
use lib.Seq.{take_at}
use Rattle.rules.specs.Bytes.{Bytes, among}
use Rattle.rules.specs.Json.Text.{Text, Reader, spelled, is_ws, ws, byte, byte_in, word}
use Rattle.rules.proofs.Tests.{apart, by}
use Rattle.rules.proofs.Json.Suffix.{Reads, EachReads, EachTakes, reads-passed, reads_none, reads_end, reads_here, reads-after, reads-least}
use Rattle.rules.proofs.Json.Suffix.{some_same, value_same, left-same, bound, taken, answered_byte, answered-none, answered-after}

abbrev pub all : Text → Text
all t = t

-- ---- the bytes that a test passes, one after another

module _ {read : Text → Text} (test : ℕ → Bool) (end : read [] ≡ []) (more : (b : ℕ) (t : Text) → test b ≡ true → read (b ∷ t) ≡ read t)
    (stop : (b : ℕ) (t : Text) → test b ≡ false → read (b ∷ t) ≡ b ∷ t) where
  pub passes-reads : (t : Text) → Reads 0 read all t (read t)
  passes-reads [] = subst (Reads 0 read all []) (sym end) (reads_end end)
  passes-reads (b ∷ t) = go (passes-reads t) (test b) refl
    where
      go : Reads 0 read all t (read t) → (passed : Bool) → test b ≡ passed → Reads 0 read all (b ∷ t) (read (b ∷ t))
      go ih true e = subst (Reads 0 read all (b ∷ t)) (sym (more b t e)) (reads-least (omega arith) (reads-after (λ w. more b w e) ih))
      go ih false e = subst (Reads 0 read all (b ∷ t)) (sym (stop b t e)) (reads_here t end (λ w. stop b w e))

-- ---- white space

pub ws-more : (b : ℕ) (t : Text) → is_ws b ≡ true → ws (b ∷ t) ≡ ws t
unfolding ws
ws-more b t e = rw (ws, e)

pub ws-stop : (b : ℕ) (t : Text) → is_ws b ≡ false → ws (b ∷ t) ≡ b ∷ t
unfolding ws
ws-stop b t e = rw (ws, e)

pub ws-reads : (t : Text) → Reads 0 ws all t (ws t)
unfolding ws
ws-reads = passes-reads is_ws refl ws-more ws-stop

-- ---- bytes

pub byte-same : (c b : ℕ) (t : Text) → eqb b c ≡ true → byte c (b ∷ t) ≡ Some t
unfolding byte
byte-same c b t e = rw (byte, e)

pub byte-other : (c b : ℕ) (t : Text) → eqb b c ≡ false → byte c (b ∷ t) ≡ None
unfolding byte
byte-other c b t e = rw (byte, e)

pub byte_reads : (c : ℕ) → EachReads 1 (byte c)
unfolding byte
byte_reads c [] r e = apart (cc)
byte_reads c (b ∷ t) r e = by (eqb b c)
    (λ p. answered_byte e (λ w. byte-same c b w p))
    (λ p. answered-none e (byte-other c b t p))

pub byte_in-reads : (lo hi : ℕ) → EachReads 1 (byte_in lo hi)
unfolding byte_in
byte_in-reads lo hi [] r e = apart (cc)
byte_in-reads lo hi (b ∷ t) r e = by (among lo hi b)
    (λ p. answered_byte e (λ w. rw (byte_in, p)))
    (λ p. answered-none e (rw (byte_in, p)))

-- ---- words

pub word_more : (c : ℕ) (w : Bytes) (b : ℕ) (t : Text) → eqb b c ≡ true → word (c ∷ w) (b ∷ t) ≡ word w t
unfolding word
word_more c w b t e = rw (word, e)

pub word-other : (c : ℕ) (w : Bytes) (b : ℕ) (t : Text) → eqb b c ≡ false → word (c ∷ w) (b ∷ t) ≡ None
unfolding word
word-other c w b t e = rw (word, e)

pub word-reads : (w : Bytes) → EachReads (length w) (word w)
unfolding word
word-reads [] t r e = subst (Reads 0 (word []) Some t) (some_same e) (reads_none (λ v. refl))
word-reads (c ∷ w) [] r e = apart (cc)
word-reads (c ∷ w) (b ∷ t) r e = go (word-reads w t r) (eqb b c) refl
  where
    go : (word w t ≡ Some r → Reads (length w) (word w) Some t r) → (test : Bool) → eqb b c ≡ test → Reads (suc (length w)) (word (c ∷ w)) Some (b ∷ t) r
    go ih true p = answered-after e (λ u. word_more c w b u p) ih
    go ih false p = answered-none e (word-other c w b t p)

-- a word is passed byte for byte
pub word-text : (w t r : Text) → word w t ≡ Some r → t ≡ w ++ r
unfolding word
word-text [] t r e = some_same e
word-text (c ∷ w) [] r e = apart (cc)
word-text (c ∷ w) (b ∷ t) r e = go (word-text w t r) (eqb b c) refl
  where
    go : (word w t ≡ Some r → t ≡ w ++ r) → (test : Bool) → eqb b c ≡ test → b ∷ t ≡ c ∷ (w ++ r)
    go ih true p =
        let same_byte : b ≡ c = eqb-true b c p in
        let same_rest : t ≡ w ++ r = ih (sym (word_more c w b t p) ∙ e) in
        cc
    go ih false p = answered-none e (word-other c w b t p)

-- ---- what is spelled

-- what stands of t before r
abbrev pub before : (t r : Text) → Text
before t r = take (length t - length r) t

pub spelled-some : (read : Reader) (t : Text) {r : Text} → read t ≡ Some r → spelled read t ≡ Some (before t r, r)
unfolding spelled
spelled-some read t e = rw (spelled, e)

pub spelled_none : (read : Reader) (t : Text) → read t ≡ None → spelled read t ≡ None
unfolding spelled
spelled_none read t e = rw (spelled, e)

pub spelled-left : (read : Reader) (t : Text) {x r : Text} → spelled read t ≡ Some (x, r) → read t ≡ Some r
unfolding spelled
spelled-left read t e = bound (read t) _ e (λ u p q. p ∙ ap Some (left-same q))

pub spelled-text : (read : Reader) (t : Text) {x r : Text} → spelled read t ≡ Some (x, r) → x ≡ before t r
spelled-text read t e = value_same (sym e ∙ spelled-some read t (spelled-left read t e))

-- what is spelled is what was passed
pub spelled-of : (read : Reader) (p v : Text) → read (p ++ v) ≡ Some v → spelled read (p ++ v) ≡ Some (p, v)
unfolding spelled
spelled-of read p v e = rw (spelled, e) (ap (λ (x : Text). Some (x, v)) (take_at p v _ n))
  where
    n : length p ≡ length (p ++ v) - length v
    n = omega (arith, length-append p v)

module _ {read : Reader} {least : ℕ} (each : EachReads least read) where
  pub spelled-reads : EachTakes least (spelled read)
  unfolding spelled
  spelled-reads x t r e = bound (read t) _ e (λ u p q.
      let h : Reads least read Some t u = each t u p in
      taken (ap (λ (w : Text). Some (w, u)) (sym (reads-passed h)) ∙ q) (record {
        passed = h.passed;
        split = h.split;
        enough = h.enough;
        again = λ v k. spelled-of read h.passed v (h.again v k);
      }))
