-- A string that is spelled in a part of a text is spelled at its place in the text, and stands for the same bytes.
use mathlib.Core.Path.{◌≡◌, sym, ap, ◌∙◌}
use Rattle.std.specs.Prelude.{Some}
use mathlib.Core.List.{◌++◌}
use Prim.Native.Nat.{ℕ, ◌+◌, ◌≤◌, ◌<◌}
use native.Mathlib.Omega.{arith}
use lib.Dec.{leb}
use lib.ListN.{length, drop}
use borrow.Author.Tests.{leb-true, leb-false}
use Rattle.facts.specs.Parts.{part}
use Rattle.facts.proofs.Parts.{part_none, drop-part, part-rest}
use Rattle.rules.specs.Bytes.{Bytes}
use Rattle.rules.specs.Json.Text.{Text, behind}
use Rattle.rules.specs.Json.Strings.{string}
use Rattle.rules.proofs.Tests.{by}
use Rattle.rules.proofs.Json.Suffix.{answered-none}
use Rattle.rules.proofs.Json.Steps.{string-end}
use Rattle.rules.proofs.Json.Shadows.{behind-some}
use Rattle.rules.proofs.Json.Extends.{string-extends}
use Rattle.json_strings.specs.Decoded.{bytes_of, decoded, WellSpelled}

decoded-some : (t : Text) {x : Bytes} {r : Text} → string t ≡ Some (x, r) → decoded t ≡ x
unfolding decoded bytes_of
decoded-some t e = ap bytes_of e

-- at its place in s
pub record Placed (s : Text) (at : ℕ) (x : Bytes) : Type 0 where
  pub spelled : WellSpelled s at
  pub same : decoded (drop at s) ≡ x

module _ (s : Text) (a b : ℕ) where
  -- what is left behind it in the part begins what is left behind it in the text
  left : (n : ℕ) → a ≤ b → (m : ℕ) × (part s (a + n) b ++ drop b s ≡ drop m s)
  left n h = by (leb (a + n) b)
      (λ t. (a + n, part-rest s (a + n) b (leb-true (a + n) b t)))
      (λ f. let l : b < a + n = leb-false (a + n) b f in (b, ap (λ (u : Text). u ++ drop b s) (part_none s (a + n) b (omega arith))))

  before : (p : ℕ) {x : Bytes} {r : Text} → string (part s (a + p) b) ≡ Some (x, r) → a + p ≤ b
  before p e = by (leb (a + p) b) (λ t. leb-true (a + p) b t)
      (λ f. let l : b < a + p = leb-false (a + p) b f in answered-none e (ap string (part_none s (a + p) b (omega arith)) ∙ string-end))

  pub spelled-part : a ≤ b → (p : ℕ) → WellSpelled (part s a b) p → Placed s (a + p) (decoded (drop p (part s a b)))
  spelled-part h p w =
      let (x, g) = behind-some (string (drop p (part s a b))) w.closed in
      let here : string (part s (a + p) b) ≡ Some (x, part s (a + w.end) b) =
      ap string (sym (drop-part s a b p)) ∙ g ∙ ap (λ (u : Text). Some (x, u)) (drop-part s a b w.end) in
      let (m, q) = left w.end h in
      let there : string (drop (a + p) s) ≡ Some (x, drop m s) =
      ap string (sym (part-rest s (a + p) b (before p here)))
      ∙ string-extends (length (part s (a + p) b)) (part s (a + p) b) (drop b s) (omega arith) here
      ∙ ap (λ (u : Text). Some (x, u)) q in
      record {
        spelled = record { end = m; closed = ap behind there };
        same = decoded-some (drop (a + p) s) there ∙ sym (decoded-some (drop p (part s a b)) g);
      }
