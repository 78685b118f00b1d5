-- `is_literal_escape` meets its contract: the rules read the same two bytes.
use mathlib.Core.Logic.{◌⊎◌, inl, inr}
use mathlib.Core.Path.{◌≡◌, refl, sym, ◌∙◌}
use Rattle.std.specs.Prelude.{Some}
use mathlib.Core.List.{◌∷◌}
use Prim.Native.Nat.{ℕ, ◌+◌, ◌-◌, ◌≤◌}
use native.Mathlib.Omega.{arith}
use lib.ListN.{length, drop, get_or}
use borrow.Author.Tests.{eqb-true, leb-true}
use Rattle.rules.specs.Bytes.{first}
use Rattle.rules.specs.Json.Text.{Text, behind}
use Rattle.rules.specs.Json.Strings.{short_escape, escaped, char}
use Rattle.rules.proofs.Json.Steps.{char-escape}
use Rattle.json_tokens.specs.Answers.{Answer}
use Rattle.json_tokens.proofs.Places.{here-is}
use Rattle.json_characters.proofs.strings.is_literal_escape.Goals as goal
use Rattle.json_characters.proofs.strings.is_literal_escape.Goals.{then-s-at-ge2, else-s-at-ge2}

-- a backslash and a byte b that stands for c behind it
two_bytes : (s : Text) (i b c : ℕ) → 2 ≤ length s - i → get_or s i 0 ≡ 0x5C → get_or s (i + 1) 0 ≡ b → ((t : Text) → escaped (b ∷ t) ≡ Some (c, t))
    → Answer (behind (char (drop i s))) s (i + 1) (Some (i + 2))
two_bytes s i b c l e f m =
    let n : i + 1 + 1 ≡ i + 2 = omega arith in
    let both : drop i s ≡ 0x5C ∷ b ∷ drop (i + 2) s = here-is s i 0x5C (omega arith) e ∙ rw (here-is s (i + 1) b (omega arith) f, n) in
    (rw (both, char-escape (b ∷ drop (i + 2) s), m (drop (i + 2) s)), omega arith, omega arith)

literal : (s : Text) (i : ℕ) → 2 ≤ length s - i → get_or s i 0 ≡ 0x5C
    → (get_or s (i + 1) 0 ≡ 0x22) ⊎ (get_or s (i + 1) 0 ≡ 0x2F) ⊎ (get_or s (i + 1) 0 ≡ 0x5C) → Answer (behind (char (drop i s))) s (i + 1) (Some (i + 2))
unfolding escaped short_escape first
literal s i l e (inl f) = two_bytes s i 0x22 0x22 l e f (λ t. refl)
literal s i l e (inr (inl f)) = two_bytes s i 0x2F 0x2F l e f (λ t. refl)
literal s i l e (inr (inr f)) = two_bytes s i 0x5C 0x5C l e f (λ t. refl)

pub returns-in-34 : goal.returns-in-34
returns-in-34 c _ =
    elim c.if-s-at-ge2.branch [
      | then-s-at-ge2 w ↦ literal c.args.s.now c.args.at w.if-s-at-ge2.true (eqb-true _ _ (sym w.value-is ∙ c.if-s-at-eq-BACKSLASH.true)) c.in-34.is
      | else-s-at-ge2 w ↦ absurd (omega (arith, leb-true _ _ (sym w.value-is ∙ c.if-s-at-eq-BACKSLASH.true)))
    ]
