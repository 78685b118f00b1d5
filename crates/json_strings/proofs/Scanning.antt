-- A string up to its first escape: what a turn of the loop over its characters keeps.
use mathlib.Core.Path.{◌≡◌, refl, sym, ap, subst, ◌∙◌}
use mathlib.Core.Bool.{true}
use Rattle.std.specs.Prelude.{Option, None, Some}
use mathlib.Core.List.{[], ◌∷◌, ◌++◌, append_assoc, append-nil}
use Prim.Native.Nat.{ℕ, ◌+◌, ◌-◌, ◌≤◌, ◌<◌}
use native.Mathlib.Omega.{arith}
use lib.ListN.{length, take, drop, get_or, length-append, length-drop, drop_of_length-le}
use lib.Seq.{length-take-le}
use Rattle.facts.specs.Parts.{part}
use Rattle.facts.proofs.Lists.{drop_here, drop-is}
use Rattle.facts.proofs.Parts.{part_none, part-split}
use Rattle.rules.specs.Bytes.{Bytes, ◌>>=◌}
use Rattle.rules.specs.Json.Text.{Text, behind, spelled}
use Rattle.rules.specs.Json.Strings.{is_plain, unescaped, char, string}
use Rattle.rules.proofs.Tests.{apart}
use Rattle.rules.proofs.Json.Shadows.{behind-some}
use Rattle.rules.proofs.Json.Places.{spelled-place}
use Rattle.rules.proofs.Json.TextReads.{spelled_none}
use Rattle.rules.proofs.Json.Steps.{char-plain, string-end, string-quote, string-none, string-char}
use Rattle.json_tokens.specs.Answers.{Answer}
use Rattle.json_characters.specs.Runs.{Plains, Closing, Closes}
use Rattle.json_characters.proofs.Runs.{plains-keep}
use Rattle.json_strings.specs.Decoded.{decoded}
use Rattle.json_strings.specs.Scanned.{Scanned}
use Rattle.json_strings.specs.declared.spellings.Spelling.TheVariants.{Plain, Escaped}
use Rattle.json_strings.proofs.Decoding.{decoded-some}
use Rattle.rules.proofs.Json.Plain.{plain-quote, plain-backslash}
use Rattle.json_strings.proofs.Shorter.{string-longer}

-- the bytes x in front of a string's
pub after : Bytes → Option (Bytes × Text) → Option (Bytes × Text)
after x o = o >>= (λ p. Some (x ++ p.0, p.1))

after-after : (x y : Bytes) (o : Option (Bytes × Text)) → after x (after y o) ≡ after (x ++ y) o
unfolding after
after-after x y None = refl
after-after x y (Some p) = ap (λ (z : Bytes). Some (z, p.1)) (sym (append_assoc x y p.0))

after_nothing : (o : Option (Bytes × Text)) → after [] o ≡ o
unfolding after
after_nothing None = refl
after_nothing (Some p) = refl

after-behind : (x : Bytes) (o : Option (Bytes × Text)) → behind (after x o) ≡ behind o
unfolding after
after-behind x None = refl
after-behind x (Some p) = refl

-- from `at` to i the string is spelled as it stands
pub record Scanning (s : Text) (at i : ℕ) : Type 0 where
  pub from : at ≤ i
  pub within : i ≤ length s
  pub rest : string (drop at s) ≡ after (part s at i) (string (drop i s))

pub scanning-start : {s : Text} {at : ℕ} → at ≤ length s → Scanning s at at
scanning-start {s} {at} h = record {
  from = omega arith;
  within = h;
  rest = sym (ap (λ (x : Bytes). after x (string (drop at s))) (part_none s at at (omega arith)) ∙ after_nothing (string (drop at s)));
}

module _ {s : Text} {at i : ℕ} (c : Scanning s at i) where
  pub scanning-none : string (drop i s) ≡ None → string (drop at s) ≡ None
  unfolding after
  scanning-none e = c.rest ∙ ap (after (part s at i)) e

  scanning-rest : {r : Text} → behind (string (drop i s)) ≡ Some r → behind (string (drop at s)) ≡ Some r
  scanning-rest e = ap behind c.rest ∙ after-behind (part s at i) (string (drop i s)) ∙ e

  pub scanning-no-rest : behind (string (drop i s)) ≡ None → string (drop at s) ≡ None
  scanning-no-rest e = scanning-none (behind-none (string (drop i s)) e)
    where
      behind-none : (o : Option (Bytes × Text)) → behind o ≡ None → o ≡ None
      behind-none None f = refl
      behind-none (Some p) f = apart (cc)

  pub scanning-ended : length s ≤ i → string (drop at s) ≡ None
  scanning-ended h = scanning-none (ap string (drop_of_length-le s h) ∙ string-end)

  module _ (h : i < length s) where
    pub scanning-quote : get_or s i 0 ≡ 0x22 → Scanned s at (Plain (i + 1))
    unfolding after part
    scanning-quote e =
        let n : i - at ≡ i + 1 - 1 - at = omega arith in
        let low : at ≤ i = c.from in (
          c.rest ∙ ap (after (part s at i)) (ap string (drop-is s i 0 0x22 h e) ∙ string-quote (drop (i + 1) s))
              ∙ ap (λ (x : Bytes). Some (x, drop (i + 1) s)) (append-nil (part s at i) ∙ ap (λ (k : ℕ). take k (drop at s)) n),
          omega arith,
          omega arith,
        )

    -- up to the backslash the string is as long as what it stands for, and longer behind it
    scanning-fewer : (j : ℕ) → j ≤ length s → get_or s i 0 ≡ 0x5C → behind (string (drop i s)) ≡ Some (drop j s) → length (decoded (drop at s)) < j - 1 - at
    unfolding after part
    scanning-fewer j w e f =
        let (x, g) = behind-some (string (drop i s)) f in
        let here : drop i s ≡ 0x5C ∷ drop (i + 1) s = drop-is s i 0 0x5C h e in
        let rest-long : length x + length (drop j s) + 1 ≤ length (drop (i + 1) s) = string-longer (drop (i + 1) s) (sym (ap string here) ∙ g) in
        let all : string (drop at s) ≡ Some (part s at i ++ x, drop j s) = c.rest ∙ ap (after (part s at i)) g in
        let low : at ≤ i = c.from in
        let fits : i - at ≤ length (drop at s) = omega (arith, length-drop at s) in
        omega (
          arith,
          ap length (decoded-some (drop at s) all),
          length-append (part s at i) x,
          length-take-le (i - at) (drop at s) fits,
          length-drop j s,
          length-drop (i + 1) s,
        )

    pub scanning-backslash : (j : ℕ) → get_or s i 0 ≡ 0x5C → Answer (behind (string (drop i s))) s (i + 1) (Some j) → Scanned s at (Escaped j)
    scanning-backslash j e f =
        let low : at ≤ i = c.from in
        let further : i + 1 ≤ j = f.1 in
        (scanning-rest f.0, omega arith, f.2, scanning-fewer j f.2 e f.0)

    module _ (q : get_or s i 0 ≡ 0x22 → ⊥) (e : get_or s i 0 ≡ 0x5C → ⊥) where
      char-here : char (drop i s) ≡ spelled unescaped (drop i s)
      char-here = rw (drop_here s i 0 h) (char-plain (get_or s i 0) (drop (i + 1) s) e)

      pub scanning-bad : unescaped (drop i s) ≡ None → string (drop at s) ≡ None
      scanning-bad f = scanning-none (ap string (drop_here s i 0 h) ∙ string-none (get_or s i 0) (drop (i + 1) s) q
          (sym (ap char (drop_here s i 0 h)) ∙ char-here ∙ spelled_none unescaped (drop i s) f))

      pub scanning-more : (j : ℕ) → unescaped (drop i s) ≡ Some (drop j s) → i + 1 ≤ j → j ≤ length s → Scanning s at j
      unfolding part after
      scanning-more j f l w = record {
        from = omega (arith, c.from);
        within = w;
        rest = c.rest ∙ ap (after (part s at i)) turn ∙ after-after (part s at i) (part s i j) (string (drop j s))
            ∙ ap (λ (x : Bytes). after x (string (drop j s))) (sym (part-split s at i j c.from (omega arith)));
      }
        where
          turn : string (drop i s) ≡ after (part s i j) (string (drop j s))
          turn = ap string (drop_here s i 0 h) ∙ string-char (get_or s i 0) (drop (i + 1) s) q
              (sym (ap char (drop_here s i 0 h)) ∙ char-here ∙ spelled-place s i j (omega arith) w unescaped f)

    scanning-plain : is_plain (get_or s i 0) ≡ true → Scanning s at (i + 1)
    unfolding unescaped
    scanning-plain p =
        scanning-more (plain-quote p) (plain-backslash p) (i + 1) (ap unescaped (drop_here s i 0 h) ∙ rw (unescaped, p)) (omega arith) (omega arith)

pub scanning-run : {s : Text} {at i j : ℕ} → Scanning s at i → (i ≤ j) × (j ≤ length s) × Plains s i j → Scanning s at j
scanning-run {s} {at} {i} {j} c p = plains-keep (Scanning s at) s (λ k u h e. scanning-plain u h e) i j p.0 p.1 p.2 c

-- a string of plain bytes alone
pub closes-scanned : (s : Text) (at r : ℕ) → at ≤ length s → Closes s at r → 0 < r → Scanned s at (Plain r)
closes-scanned s at r h c l =
    let i : ℕ = r - 1 in
    let same : i + 1 ≡ r = omega arith in
    let x : Closing s at i = c.0 i (sym same) in
    let high : i < length s = x.1 in
    subst (λ (k : ℕ). Scanned s at (Plain k)) same (scanning-quote (scanning-run (scanning-start h) (x.0, omega arith, x.2)) high x.3)
