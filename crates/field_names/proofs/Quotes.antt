-- A name of a kind that stands before a quote: a string that is spelled as it stands.
use mathlib.Core.Path.{◌≡◌, refl, sym, ap, ◌∙◌, subst}
use mathlib.Core.Bool.{true}
use mathlib.Core.List.{[]}
use Prim.Native.Nat.{ℕ, zero, suc, ◌+◌, ◌-◌, ◌≤◌, ◌<◌}
use native.Mathlib.Omega.{arith}
use lib.ListN.{length, take, drop, get_or, length-drop}
use lib.Seq.{length-take-le, get_or-take, get_or-drop}
use Rattle.facts.proofs.Lists.{drop_here}
use Rattle.rules.specs.Bytes.{Bytes}
use Rattle.rules.specs.Json.Text.{Text}
use Rattle.rules.specs.Json.Strings.{is_plain, unescaped}
use Rattle.rules.proofs.Json.Plain.{plain-quote, plain-backslash}
use Rattle.json_strings.proofs.Scanning.{Scanning, scanning-start, scanning-quote, scanning-more}
use Rattle.field_names.specs.Spelled.{name_in, Named}
use Rattle.field_names.specs.declared.keys.Spell.{Spell}
use Rattle.field_names.proofs.Quoting.{named-plain}
use Rattle.field_names.specs.Kinds.{names_of, seek}
use Rattle.field_names.specs.declared.kinds.Kind.{Kind}
use Rattle.field_names.proofs.Seeking.{seek_found}
use Rattle.field_names.proofs.Naming.{every, every-at, name-plain}

module _ (s : Text) (i : ℕ) where
  passed : (n : ℕ) → i + n ≤ length s → ((b : ℕ) → b < n → is_plain (get_or s (i + b) 0) ≡ true) → Scanning s i (i + n)
  unfolding unescaped
  passed zero h f = let e : i ≡ i + 0 = omega arith in subst (Scanning s i) e (scanning-start (omega arith))
  passed (suc n) h f =
      let e : i + n + 1 ≡ i + suc n = omega arith in
      let here : i + n < length s = omega arith in
      let p = f n (omega arith) in
      subst (Scanning s i) e (scanning-more (passed n (omega arith) (λ b l. f b (omega arith))) here (plain-quote p) (plain-backslash p) (i + n + 1)
      (ap unescaped (drop_here s (i + n) 0 here) ∙ rw (unescaped, p)) (omega arith) (omega arith))

  -- the bytes before the quote at j
  module _ (j : ℕ) (low : i ≤ j) (high : j < length s) (quote : get_or s j 0 ≡ 0x22) where
    abbrev spell : Spell
    spell = record { at = i; end = j + 1; plain = true }

    abbrev before : Bytes
    before = take (j - i) (drop i s)

    plain-stands : every is_plain before ≡ true → Named s spell
    plain-stands p =
        let e : i + (j - i) ≡ j = omega arith in
        let t = scanning-quote (subst (Scanning s i) e (passed (j - i) (omega arith) (λ b l. byte b l))) high quote in
        named-plain s i (j + 1) t.0 t.1 t.2
      where
        size : length before ≡ j - i
        size = length-take-le (j - i) (drop i s) (omega (arith, length-drop i s))

        byte : (b : ℕ) → b < j - i → is_plain (get_or s (i + b) 0) ≡ true
        byte b l = ap is_plain (sym (get_or-take (j - i) (drop i s) b 0 l ∙ get_or-drop i s b 0)) ∙ every-at is_plain 0 before p b (omega (arith, size))

    pub name-stands : (kind : Kind) (k : ℕ) → k ≡ seek before (names_of kind) → k < length (names_of kind)
        → Named s spell × (k ≡ seek (name_in s spell) (names_of kind))
    name-stands kind k e h =
        let found : before ≡ get_or (names_of kind) k [] = seek_found before (names_of kind) k h (sym e) in
        let named : Named s spell = plain-stands (ap (every is_plain) found ∙ name-plain kind k h) in
        let n : j - i ≡ j + 1 - 1 - i = omega arith in
        (named, e ∙ ap (λ (x : Bytes). seek x (names_of kind)) (ap (λ (m : ℕ). take m (drop i s)) n ∙ sym (named.raw refl)))
