-- A reader leaves a suffix of its text, and looks no further than one byte behind what it reads.
-- Both are one relation, `Reads`, so that each reader is taken apart once.
use mathlib.Core.Path.{◌≡◌, refl, sym, ap, ◌∙◌, subst}
use Rattle.std.specs.Prelude.{Option, None, Some}
use mathlib.Core.List.{[], ◌∷◌, ◌++◌, append_assoc}
use Prim.Native.Nat.{ℕ, suc, ◌+◌, ◌-◌, ◌≤◌}
use native.Mathlib.Omega.{arith}
use lib.ListN.{length, take, drop, length-append}
use lib.Seq.{take_at, drop-append_seam}
use Rattle.rules.specs.Bytes.{◌>>=◌}
use Rattle.rules.specs.Json.Text.{Text, Reader, Taker}
use Rattle.rules.proofs.Tests.{apart}

-- ---- what may stand behind a thing in the place of u: nothing, or a text that begins as u does

pub data Beside : Text → Text → Type 0 where
  nothing : {u : Text} → Beside u []
  alike : {b : ℕ} {u v : Text} → Beside (b ∷ u) (b ∷ v)

pub beside_same : (u : Text) → Beside u u
beside_same [] = nothing
beside_same (b ∷ u) = alike

pub beside-append : (q : Text) {u v : Text} → Beside u v → Beside (q ++ u) (q ++ v)
beside-append [] h = h
beside-append (b ∷ q) h = alike

-- ---- a reader at a text

-- `read` answers `answer r` of t: it passed `least` bytes or more of t and left r,
-- and does the same where another text stands behind them that begins as r does
pub record Reads {O : Type 0} (least : ℕ) (read answer : Text → O) (t r : Text) : Type 0 where
  pub passed : Text
  pub split : t ≡ passed ++ r
  pub enough : least ≤ length passed
  pub again : (v : Text) → Beside r v → read (passed ++ v) ≡ answer v

-- a reader whose every answer is so, and a taker
abbrev pub EachReads : ℕ → Reader → Type 0
EachReads least read = (t r : Text) → read t ≡ Some r → Reads least read Some t r

abbrev pub EachTakes : {A : Type 0} → ℕ → Taker A → Type 0
EachTakes {A} least read = (x : A) (t r : Text) → read t ≡ Some (x, r) → Reads least read (λ v. Some (x, v)) t r

module _ {O : Type 0} {least : ℕ} {read answer : Text → O} {t r : Text} (h : Reads least read answer t r) where
  pub reads-length : length t ≡ length h.passed + length r
  reads-length = ap length h.split ∙ length-append h.passed r

  -- what is left, by the number of bytes passed
  pub reads-left : r ≡ drop (length h.passed) t
  reads-left = sym (ap (drop (length h.passed)) h.split ∙ drop-append_seam h.passed r)

  pub reads-within : length h.passed ≤ length t
  reads-within = omega (arith, reads-length)

  pub reads-fewer : length r + least ≤ length t
  reads-fewer = omega (arith, reads-length, h.enough)

  pub reads-passed : take (length t - length r) t ≡ h.passed
  reads-passed =
      let e : length t ≡ length h.passed + length r = reads-length in
      let n : length h.passed ≡ length t - length r = omega arith in
      ap (take (length t - length r)) h.split ∙ take_at h.passed r (length t - length r) n

-- ---- readers by the first byte of their text

module _ {O : Type 0} {read answer : Text → O} where
  -- nothing is read, whatever stands there
  pub reads_none : {t : Text} → ((w : Text) → read w ≡ answer w) → Reads 0 read answer t t
  reads_none f = record { passed = []; split = refl; enough = omega arith; again = λ v _. f v }

  -- nothing is read, and nothing is left
  pub reads_end : read [] ≡ answer [] → Reads 0 read answer [] []
  reads_end e = record { passed = []; split = refl; enough = omega arith; again = go }
    where
      go : (v : Text) → Beside [] v → read v ≡ answer v
      go _ nothing = e

  -- nothing is read, for the byte that stands there
  pub reads_here : {b : ℕ} (t : Text) → read [] ≡ answer [] → ((w : Text) → read (b ∷ w) ≡ answer (b ∷ w)) → Reads 0 read answer (b ∷ t) (b ∷ t)
  reads_here {b} t e f = record { passed = []; split = refl; enough = omega arith; again = go }
    where
      go : (v : Text) → Beside (b ∷ t) v → read v ≡ answer v
      go _ nothing = e
      go _ (alike {v = w}) = f w

  -- the byte is read
  pub reads_byte : {b : ℕ} (t : Text) → ((w : Text) → read (b ∷ w) ≡ answer w) → Reads 1 read answer (b ∷ t) t
  reads_byte {b} t f = record { passed = b ∷ []; split = refl; enough = omega arith; again = λ v _. f v }

  -- the byte is read, and what another reads behind it
  pub reads-after : {least b : ℕ} {other : Text → O} {t r : Text} → ((w : Text) → read (b ∷ w) ≡ other w)
      → Reads least other answer t r → Reads (suc least) read answer (b ∷ t) r
  reads-after {b = b} f h = record {
    passed = b ∷ h.passed;
    split = ap (λ (x : Text). b ∷ x) h.split;
    enough = omega (arith, h.enough);
    again = λ v k. f (h.passed ++ v) ∙ h.again v k;
  }

  -- another reader reads the byte and more
  pub reads_as : {least b : ℕ} {other : Text → O} {t r : Text} → ((w : Text) → read (b ∷ w) ≡ other (b ∷ w))
      → Reads (suc least) other answer (b ∷ t) r → Reads (suc least) read answer (b ∷ t) r
  reads_as {least} {b} {other} {t} {r} f h = go h.passed h.split h.enough h.again
    where
      go : (p : Text) → b ∷ t ≡ p ++ r → suc least ≤ length p → ((v : Text) → Beside r v → other (p ++ v) ≡ answer v) → Reads (suc least) read answer (b ∷ t) r
      go [] s n k = absurd (omega (arith, n))
      go (c ∷ p) s n k =
          let same_byte : b ≡ c = cc s in
          record {
            passed = c ∷ p;
            split = s;
            enough = n;
            again = λ v j. subst (λ (x : ℕ). read (x ∷ (p ++ v)) ≡ other (x ∷ (p ++ v))) same_byte (f (p ++ v)) ∙ k v j;
          }

-- ---- readers from readers

module _ {O P : Type 0} {least : ℕ} {read answer : Text → O} {t r : Text} where
  -- one that makes something else of what another answers
  pub reads_made : {made result : Text → P} → ((w u : Text) → read w ≡ answer u → made w ≡ result u)
      → Reads least read answer t r → Reads least made result t r
  reads_made f h = record { passed = h.passed; split = h.split; enough = h.enough; again = λ v k. f (h.passed ++ v) v (h.again v k) }

  -- one reader behind another
  pub reads_then : {more : ℕ} {both next result : Text → P} {u : Text} → Reads least read answer t r → Reads more next result r u
      → ((w x : Text) → read w ≡ answer x → both w ≡ next x) → Reads (least + more) both result t u
  reads_then {both = both} {result = result} {u} h k f = record {
    passed = h.passed ++ k.passed;
    split = h.split ∙ ap (λ (x : Text). h.passed ++ x) k.split ∙ sym (append_assoc h.passed k.passed u);
    enough = omega (arith, h.enough, k.enough, length-append h.passed k.passed);
    again = λ v j. ap both (append_assoc h.passed k.passed v)
        ∙ f _ _ (h.again (k.passed ++ v) (subst (λ (x : Text). Beside x (k.passed ++ v)) (sym k.split) (beside-append k.passed j))) ∙ k.again v j;
  }

pub reads-least : {O : Type 0} {least most : ℕ} {read answer : Text → O} {t r : Text} → least ≤ most → Reads most read answer t r → Reads least read answer t r
reads-least n h = record { passed = h.passed; split = h.split; enough = omega (arith, h.enough); again = h.again }

-- ---- how a proof takes a reader's answer apart

pub some_same : {A : Type 0} {a b : A} → Some a ≡ Some b → a ≡ b
some_same e = cc

pub value_same : {A B : Type 0} {p q : A × B} → Some p ≡ Some q → p.0 ≡ q.0
value_same e = ap (λ p. p.0) (some_same e)

pub left-same : {A B : Type 0} {p q : A × B} → Some p ≡ Some q → p.1 ≡ q.1
left-same e = ap (λ p. p.1) (some_same e)

-- by the answer that another answer was made from
pub bound : {A B P : Type 0} {b : B} (o : Option A) (f : A → Option B) → (o >>= f) ≡ Some b → ((a : A) → o ≡ Some a → f a ≡ Some b → P) → P
bound None f e k = apart (cc)
bound (Some a) f e k = k a refl e

-- the same answer, written in two ways
pub taken : {A : Type 0} {least : ℕ} {read : Taker A} {t : Text} {p q : A × Text} → Some p ≡ Some q
    → Reads least read (λ v. Some (p.0, v)) t p.1 → Reads least read (λ v. Some (q.0, v)) t q.1
taken {A} {least} {read} {t} e h = subst (λ (y : A × Text). Reads least read (λ v. Some (y.0, v)) t y.1) (some_same e) h

-- the laws by the first byte, where an answer is known

module _ {read : Reader} {b : ℕ} {t r : Text} (e : read (b ∷ t) ≡ Some r) where
  pub answered-here : read [] ≡ Some [] → ((w : Text) → read (b ∷ w) ≡ Some (b ∷ w)) → Reads 0 read Some (b ∷ t) r
  answered-here n f = subst (Reads 0 read Some (b ∷ t)) (some_same (sym (f t) ∙ e)) (reads_here t n f)

  pub answered_byte : ((w : Text) → read (b ∷ w) ≡ Some w) → Reads 1 read Some (b ∷ t) r
  answered_byte f = subst (Reads 1 read Some (b ∷ t)) (some_same (sym (f t) ∙ e)) (reads_byte t f)

pub answered-none : {A P : Type 0} {o : Option A} {a : A} → o ≡ Some a → o ≡ None → P
answered-none e n = apart (cc)

module _ {O : Type 0} {read answer other : Text → O} {least b : ℕ} {t r : Text} (e : read (b ∷ t) ≡ answer r) where
  pub answered-after : ((w : Text) → read (b ∷ w) ≡ other w) → (other t ≡ answer r → Reads least other answer t r) → Reads (suc least) read answer (b ∷ t) r
  answered-after f h = reads-after f (h (sym (f t) ∙ e))

  pub answered-as : ((w : Text) → read (b ∷ w) ≡ other (b ∷ w)) → (other (b ∷ t) ≡ answer r → Reads (suc least) other answer (b ∷ t) r)
      → Reads (suc least) read answer (b ∷ t) r
  answered-as f h = reads_as f (h (sym (f t) ∙ e))
