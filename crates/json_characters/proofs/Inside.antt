-- Inside a string: what a turn of the loop over its characters keeps. The bound of `chars` is not told: it only has to be enough.
use mathlib.Core.Path.{◌≡◌, refl, sym, ap, ◌∙◌}
use mathlib.Core.Bool.{true}
use Rattle.std.specs.Prelude.{Option, None, Some}
use mathlib.Core.List.{◌∷◌, ◌++◌}
use Prim.Native.Nat.{ℕ, zero, suc, ◌+◌, ◌-◌, ◌≤◌, ◌<◌}
use native.Mathlib.Omega.{arith}
use lib.ListN.{length, drop, get_or, length-drop}
use borrow.Author.Tests.{ne_eqb}
use Rattle.rules.specs.Bytes.{Bytes, ◌>>=◌}
use Rattle.rules.specs.Json.Text.{Text, behind}
use Rattle.rules.specs.Json.Strings.{is_plain, unescaped, char, chars, string}
use Rattle.rules.proofs.Json.Plain.{plain-quote, plain-backslash}
use Rattle.rules.proofs.Json.Shadows.{behind-spelled}
use Rattle.rules.proofs.Json.StringReads.{string-bound}
use Rattle.json_tokens.specs.Answers.{Answer}
use Rattle.json_tokens.proofs.Places.{here, here-is, ended}
use Rattle.json_characters.specs.Runs.{Plains, Closing, Closes}
use Rattle.json_characters.proofs.Runs.{plains-keep}

-- characters by what is left behind the first
chars-behind : (n : ℕ) (b : ℕ) (t : Text) → (b ≡ 0x22 → ⊥) → behind (chars (suc n) (b ∷ t)) ≡ (behind (char (b ∷ t)) >>= λ r. behind (chars n r))
unfolding chars
chars-behind n b t q = rw (chars, ne_eqb b 0x22 q) (each (char (b ∷ t)))
  where
    others : (x : Bytes) (o : Option (Bytes × Text)) → behind (o >>= λ p. Some (x ++ p.0, p.1)) ≡ behind o
    others x None = refl
    others x (Some p) = refl

    each : (o : Option (Bytes × Text)) → behind (o >>= λ p. chars n p.1 >>= λ q. Some (p.0 ++ q.0, q.1)) ≡ (behind o >>= λ r. behind (chars n r))
    each None = refl
    each (Some p) = others p.0 (chars n p.1)

-- a plain byte is a character by itself
plain-char : (b : ℕ) (t : Text) → is_plain b ≡ true → behind (char (b ∷ t)) ≡ Some t
unfolding char unescaped
plain-char b t p = rw (char, ne_eqb b 0x5C (plain-backslash p)) (behind-spelled unescaped (b ∷ t) ∙ rw (unescaped, p))

-- the characters from `at` on go on at i, with a bound n that is enough for them
pub record Inside (s : Text) (at i : ℕ) : Type 0 where
  pub from : at ≤ i
  pub within : i ≤ length s
  pub n : ℕ
  pub enough : length s < n + i
  pub same : behind (chars n (drop i s)) ≡ behind (string (drop at s))

pub inside-start : {s : Text} {at : ℕ} → at ≤ length s → Inside s at at
unfolding string
inside-start {s} {at} h =
    record {
      from = omega arith;
      within = h;
      n = suc (length (drop at s));
      enough = simp length-drop (omega arith);
      same = refl;
    }

chars-ended : (n : ℕ) (s : Text) (i : ℕ) → length s ≤ i → chars n (drop i s) ≡ None
unfolding chars
chars-ended zero s i h = refl
chars-ended (suc n) s i h = rw (ended s i h)

chars-quote : (n : ℕ) (s : Text) (i : ℕ) → length s < n + i → i < length s → get_or s i 0 ≡ 0x22 → behind (chars n (drop i s)) ≡ Some (drop (i + 1) s)
unfolding chars
chars-quote zero s i f h e = absurd (omega arith)
chars-quote (suc n) s i f h e = rw (here-is s i 0x22 h e)

-- what the first character leaves is read with one less
chars-next : (n : ℕ) (s : Text) (i : ℕ) → length s < n + i → i < length s → (get_or s i 0 ≡ 0x22 → ⊥)
    → (m : ℕ) × (n ≡ suc m) × (behind (chars n (drop i s)) ≡ (behind (char (drop i s)) >>= λ r. behind (chars m r)))
chars-next zero s i f h q = absurd (omega arith)
chars-next (suc m) s i f h q = (m, refl, rw (here s i h) (chars-behind m _ _ q))

module _ {s : Text} {at i : ℕ} (t : Inside s at i) where
  pub inside-ended : length s ≤ i → behind (string (drop at s)) ≡ None
  inside-ended h = sym t.same ∙ ap behind (chars-ended t.n s i h)

  module _ (h : i < length s) where
    pub inside-quote : get_or s i 0 ≡ 0x22 → behind (string (drop at s)) ≡ Some (drop (i + 1) s)
    inside-quote e = sym t.same ∙ chars-quote t.n s i t.enough h e

    pub inside-none : (get_or s i 0 ≡ 0x22 → ⊥) → behind (char (drop i s)) ≡ None → behind (string (drop at s)) ≡ None
    inside-none q e =
        let (m, p, r) = chars-next t.n s i t.enough h q in
        sym t.same ∙ r ∙ rw e

    pub inside-more : {j : ℕ} → (get_or s i 0 ≡ 0x22 → ⊥) → behind (char (drop i s)) ≡ Some (drop j s) → i + 1 ≤ j → j ≤ length s → Inside s at j
    inside-more {j = j} q e l w =
        let (m, p, r) = chars-next t.n s i t.enough h q in
        record {
          from = omega arith;
          within = w;
          n = m;
          enough = omega arith;
          same = sym (r ∙ rw e) ∙ t.same;
        }

    inside-plain : is_plain (get_or s i 0) ≡ true → Inside s at (i + 1)
    inside-plain p = inside-more (plain-quote p) (ap (λ (u : Text). behind (char u)) (here s i h) ∙ plain-char _ _ p) (omega arith) (omega arith)

pub inside-run : {s : Text} {at i j : ℕ} → Inside s at i → (i ≤ j) × (j ≤ length s) × Plains s i j → Inside s at j
inside-run {s} {at} {i} {j} t p = plains-keep (Inside s at) s (λ k u h e. inside-plain u h e) i j p.0 p.1 p.2 t

-- the string goes on at i as one of its own
pub inside-rest : {s : Text} {at i : ℕ} → Inside s at i → behind (string (drop i s)) ≡ behind (string (drop at s))
inside-rest {s} {at} {i} t = ap behind (string-bound t.n (drop i s) (omega (arith, length-drop i s, t.enough, t.within))) ∙ t.same

-- a string of plain bytes alone
pub closes-answer : (s : Text) (at r : ℕ) → at ≤ length s → Closes s at r → 0 < r → Answer (behind (string (drop at s))) s (at + 1) (Some r)
closes-answer s at r h c l =
    let i : ℕ = r - 1 in
    let same : r ≡ i + 1 = omega arith in
    let x : Closing s at i = c.0 i same in
    let low : at ≤ i = x.0 in
    let high : i < length s = x.1 in
    let inside : Inside s at i = inside-run (inside-start h) (low, omega arith, x.2) in
    (inside-quote inside high x.3 ∙ ap (λ (k : ℕ). Some (drop k s)) (sym same), omega arith, omega arith)
