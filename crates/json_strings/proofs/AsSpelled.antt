-- Strings compared as they are spelled: how the bytes are found that can be, and what two strings that are spelled alike tell.
use mathlib.Core.Path.{◌≡◌, refl, sym, ap, ◌∙◌}
use mathlib.Core.List.{◌∷◌, ◌++◌}
use Rattle.std.specs.Prelude.{Some}
use Prim.Native.Nat.{ℕ, zero, suc, ◌+◌, ◌-◌, ◌≤◌, ◌<◌}
use native.Mathlib.Omega.{arith}
use lib.Dec.{eqb, ltb}
use lib.ListN.{length, drop, get_or}
use borrow.Author.Tests.{eqb-true, eqb-false, ltb-true, ltb-false}
use Rattle.facts.proofs.Lists.{drop-is}
use Rattle.rules.specs.Bytes.{Bytes, less, more, order, first}
use Rattle.rules.specs.Json.Text.{Text}
use Rattle.rules.specs.Json.Strings.{short_escape, escaped}
use Rattle.rules.proofs.Tests.{by}
use Rattle.bytes_eights.specs.Alike.{Alike}
use Rattle.json_characters.specs.Runs.{Plains}
use Rattle.json_strings.specs.Flat.{flat}
use Rattle.json_strings.proofs.Ahead.{flat-at-itself, flat-at-escape}
use Rattle.json_strings.proofs.Widths.{utf8-one}
use Rattle.json_strings.specs.Spelling.{Raw, Whole, Tells}
use Rattle.rules.proofs.Json.Plain.{plain-quote, plain-backslash}
use Rattle.json_strings.proofs.Orders.{order-next-less, order-next-more, order-next-equal}

-- ---- the bytes that are compared as they are spelled

pub raw-none : {t : Text} {a : ℕ} → a ≤ length t → Raw t a a
raw-none h = record { low = omega arith; high = h; inside = λ k l m. absurd (omega arith); slashed = λ k l m. absurd (omega arith) }

module _ {t : Text} {a b : ℕ} (r : Raw t a b) where
  raw-more : (c : ℕ) → b ≤ c → c ≤ length t → ((k : ℕ) → b ≤ k → k < c → get_or t k 0 ≡ 0x22 → ⊥)
      → ((k : ℕ) → b ≤ k → k < c → get_or t k 0 ≡ 0x5C → (k + 1 < c) × (get_or t (k + 1) 0 ≡ 0x2F)) → Raw t a c
  raw-more c l m f g = record {
    low = omega (arith, r.low);
    high = m;
    inside = λ k h i. by (ltb k b) (λ y. r.inside k h (ltb-true k b y)) (λ y. f k (ltb-false k b y) i);
    slashed = λ k h i e. by (ltb k b)
        (λ y. let q = r.slashed k h (ltb-true k b y) e in (omega (arith, q.0), q.1))
        (λ y. g k (ltb-false k b y) i e);
  }

  pub raw-plain : (c : ℕ) → b ≤ c → c ≤ length t → Plains t b c → Raw t a c
  raw-plain c l m p = raw-more c l m (λ k h i. plain-quote (p k h i)) (λ k h i e. absurd (plain-backslash (p k h i) e))

-- ---- strings that are spelled alike

-- two strings stand to each other as they do n bytes further on
pub record Common (s : Text) (i : ℕ) (t : Text) (j n : ℕ) : Type 0 where
  pub same : order (flat (drop i s)) (flat (drop j t)) ≡ order (flat (drop (i + n) s)) (flat (drop (j + n) t))
  pub first : i + n ≤ length s
  pub second : j + n ≤ length t

common-start : {s t : Text} {i j : ℕ} → i ≤ length s → j ≤ length t → Common s i t j 0
common-start {s} {t} {i} {j} h k =
    let e : i ≡ i + 0 = omega arith in
    let f : j ≡ j + 0 = omega arith in
    record {
      same = ap (λ (n : ℕ). order (flat (drop n s)) (flat (drop j t))) e ∙ ap (λ (n : ℕ). order (flat (drop (i + 0) s)) (flat (drop n t))) f;
      first = omega arith;
      second = omega arith;
    }

-- the next m stand for the same byte
common-next : {s t : Text} {i j n : ℕ} (m l : ℕ) {b c : ℕ} → n + m ≡ l → Common s i t j n → i + l ≤ length s → j + l ≤ length t
    → flat (drop (i + n) s) ≡ b ∷ flat (drop (i + n + m) s) → flat (drop (j + n) t) ≡ c ∷ flat (drop (j + n + m) t) → b ≡ c → Common s i t j l
common-next {s} {t} {i} {j} {n} m l q o h k x y z =
    let e : i + n + m ≡ i + l = omega arith in
    let f : j + n + m ≡ j + l = omega arith in
    record {
      same = o.same ∙ order-next-equal x y z
          ∙ ap (λ (p : ℕ). order (flat (drop p s)) (flat (drop (j + n + m) t))) e ∙ ap (λ (p : ℕ). order (flat (drop (i + l) s)) (flat (drop p t))) f;
      first = h;
      second = k;
    }

flat-at-slash : (s : Text) (i : ℕ) → i + 1 < length s → get_or s i 0 ≡ 0x5C → get_or s (i + 1) 0 ≡ 0x2F → flat (drop i s) ≡ 0x2F ∷ flat (drop (i + 2) s)
unfolding escaped short_escape first
flat-at-slash s i h e f =
    let p : i + 1 + 1 ≡ i + 2 = omega arith in
    flat-at-escape s i (omega arith) 0x2F (i + 2) e (ap escaped (drop-is s (i + 1) 0 0x2F h f) ∙ ap (λ (n : ℕ). Some (0x2F, drop n s)) p)
    ∙ ap (λ (x : Bytes). x ++ flat (drop (i + 2) s)) (utf8-one 0x2F (omega arith))

module _ {t : Text} {j end : ℕ} (w : Raw t j end) where
  -- a backslash stands before nothing but a slash
  whole-other : (n : ℕ) → j + n < end → (get_or t (j + n) 0 ≡ 0x2F → ⊥) → Whole t j n
  whole-other n l e k q f =
      let p : j + n ≡ j + k + 1 = omega arith in
      e (ap (λ (m : ℕ). get_or t m 0) p ∙ (w.slashed (j + k) (omega arith) (omega arith) f).1)

  whole_before : (n : ℕ) → j + n < end → get_or t (j + n) 0 ≡ 0x5C → Whole t j n
  whole_before n l e = whole-other n l (λ f. omega (arith, e, f))

  pub whole-cut : {n : ℕ} → 0 < n → j + n ≤ end → get_or t (j + n - 1) 0 ≡ 0x5C → Whole t j (n - 1)
  whole-cut {n} h l e =
      let p : j + (n - 1) ≡ j + n - 1 = omega arith in
      whole_before (n - 1) (omega arith) (ap (λ (m : ℕ). get_or t m 0) p ∙ e)

pub whole-kept : (t : Text) (j : ℕ) {n : ℕ} → 0 < n → (get_or t (j + n - 1) 0 ≡ 0x5C → ⊥) → Whole t j n
whole-kept t j {n} h e k q f =
    let p : j + n - 1 ≡ j + k = omega arith in
    e (ap (λ (m : ℕ). get_or t m 0) p ∙ f)

module _ (s : Text) (i : ℕ) {t : Text} {j end : ℕ} (w : Raw t j end) where
  common-itself : {n : ℕ} → Common s i t j n → i + n < length s → j + n < end → get_or s (i + n) 0 ≡ get_or t (j + n) 0 → (get_or t (j + n) 0 ≡ 0x5C → ⊥)
      → Common s i t j (suc n)
  common-itself {n} o h l e b =
      let q : get_or t (j + n) 0 ≡ 0x22 → ⊥ = w.inside (j + n) (omega arith) l in
      common-next 1 (suc n) (omega arith) o (omega arith) (omega (arith, w.high))
      (flat-at-itself s (i + n) h (λ p. q (sym e ∙ p)) (λ p. b (sym e ∙ p)))
      (flat-at-itself t (j + n) (omega (arith, w.high)) q b) e

  common-raw : (n : ℕ) → i + n ≤ length s → j + n ≤ end → Alike s i t j n → Whole t j n → Common s i t j n
  common-raw zero h l a v = common-start (omega arith) (omega (arith, w.high))
  common-raw (suc zero) h l a v =
      common-itself (common-start (omega arith) (omega (arith, w.high))) (omega arith) (omega arith) (a 0 (omega arith)) (v 0 (omega arith))
  common-raw (suc (suc n)) h l a v = by (eqb (get_or t (j + n) 0) 0x5C)
      (λ y. let b : get_or t (j + n) 0 ≡ 0x5C = eqb-true _ _ y in
      let f : get_or t (j + n + 1) 0 ≡ 0x2F = (w.slashed (j + n) (omega arith) (omega arith) b).1 in
      common-next 2
      (suc (suc n))
      (omega arith)
      (common-raw n (omega arith) (omega arith) (λ k m. a k (omega arith)) (whole_before w n (omega arith) b))
      h
      (omega (arith, w.high))
      (flat-at-slash s (i + n) (omega arith) (a n (omega arith) ∙ b) (there f))
      (flat-at-slash t (j + n) (omega (arith, w.high)) b f)
      refl)
      (λ y. common-itself (common-raw (suc n) (omega arith) (omega arith) (λ k m. a k (omega arith)) (λ k q. here k q (eqb-false _ _ y))) (omega arith)
      (omega arith) (a (suc n) (omega arith)) (v (suc n) (omega arith)))
    where
      there : get_or t (j + n + 1) 0 ≡ 0x2F → get_or s (i + n + 1) 0 ≡ 0x2F
      there f =
          let p : i + n + 1 ≡ i + suc n = omega arith in
          let q : j + suc n ≡ j + n + 1 = omega arith in
          ap (λ (m : ℕ). get_or s m 0) p ∙ a (suc n) (omega arith) ∙ ap (λ (m : ℕ). get_or t m 0) q ∙ f

      here : (k : ℕ) → k + 1 ≡ suc n → (get_or t (j + n) 0 ≡ 0x5C → ⊥) → get_or t (j + k) 0 ≡ 0x5C → ⊥
      here k q x f = let p : n ≡ k = omega arith in x (ap (λ (m : ℕ). get_or t (j + m) 0) p ∙ f)

  -- as far as both are looked at, `room` bytes, n are alike, and m of them are whole
  pub common-whole : {room n m : ℕ} → i < length s → (room ≤ end - j) × (room ≤ length s - i) → (n ≤ room) × Alike s i t j n → (m ≤ n) × Whole t j m
      → Common s i t j m
  common-whole {room} {n} {m} h r a v =
      common-raw m (omega (arith, r.1, a.0, v.0)) (omega (arith, w.low, r.0, a.0, v.0)) (λ k l. a.1 k (omega (arith, v.0))) v.1

  module _ {n : ℕ} (h : i + n < length s) (l : j + n < end) (a : Alike s i t j n) (b : Tells (get_or s (i + n) 0) (get_or t (j + n) 0)) where
    common-told : Common s i t j n
    common-told = common-raw n (omega arith) (omega arith) a (whole-other w n l b.slash)

    first-told : flat (drop (i + n) s) ≡ get_or s (i + n) 0 ∷ flat (drop (i + n + 1) s)
    first-told = flat-at-itself s (i + n) h b.inside b.first

    second-told : flat (drop (j + n) t) ≡ get_or t (j + n) 0 ∷ flat (drop (j + n + 1) t)
    second-told = flat-at-itself t (j + n) (omega (arith, w.high)) (w.inside (j + n) (omega arith) l) b.second

    pub less-raw : get_or s (i + n) 0 < get_or t (j + n) 0 → order (flat (drop i s)) (flat (drop j t)) ≡ less
    less-raw d = common-told.same ∙ order-next-less first-told second-told d

    pub more-raw : get_or t (j + n) 0 < get_or s (i + n) 0 → order (flat (drop i s)) (flat (drop j t)) ≡ more
    more-raw d = common-told.same ∙ order-next-more first-told second-told d
