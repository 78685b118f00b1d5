-- A member is its name and what stands behind it: the shadow of the rules' reader of members, in two steps.
use mathlib.Core.Path.{◌≡◌, refl, sym, ap, ◌∙◌}
use Rattle.std.specs.Prelude.{Option, None, Some}
use mathlib.Core.List.{◌∷◌}
use Prim.Native.Nat.{ℕ, ◌+◌, ◌≤◌}
use native.Mathlib.Omega.{arith}
use lib.ListN.{length, drop, get_or}
use Rattle.facts.proofs.Lists.{drop-is}
use Rattle.rules.specs.Bytes.{◌>>=◌}
use Rattle.rules.specs.Json.Text.{Text, Reader, behind, byte}
use Rattle.rules.specs.Json.Strings.{string}
use Rattle.rules.specs.Json.Values.{colon, member, value}
use Rattle.rules.proofs.Opened.{rules}
use Rattle.rules.proofs.Json.Shadows.{behind-member}
use Rattle.rules.proofs.Json.Steps.{value-scalar, scalar-string}
use Rattle.json_tokens.specs.Answers.{Answer}
use Rattle.json_values.specs.Whole.{name}

module _ (read : Reader) (t : Text) where
  member-name : behind (member read t) ≡ (name t >>= read)
  unfolding name
  member-name = behind-member read t ∙ sym (one (byte 0x22 t))
    where
      two : (o : Option Text) → ((o >>= colon) >>= read) ≡ (o >>= (λ r. colon r >>= read))
      two None = refl
      two (Some r) = refl

      one : (o : Option Text) → ((o >>= (λ n. behind (string n) >>= colon)) >>= read) ≡ (o >>= (λ n. behind (string n) >>= (λ r. colon r >>= read)))
      one None = refl
      one (Some n) = two (behind (string n))

  pub member-nameless : name t ≡ None → behind (member read t) ≡ None
  member-nameless e = member-name ∙ ap (λ o. o >>= read) e

  pub member-named : {v : Text} {o : Option Text} → name t ≡ Some v → read v ≡ o → behind (member read t) ≡ o
  member-named e f = member-name ∙ ap (λ o. o >>= read) e ∙ f

-- ---- a colon with a string behind it, and nothing around it

colon-quote : (t : Text) → colon (0x3A ∷ 0x22 ∷ t) ≡ Some (0x22 ∷ t)
unfolding rules
colon-quote t = refl

module _ (s : Text) (n : ℕ) (fits : n + 2 ≤ length s) (quoted : get_or s (n + 1) 0 ≡ 0x22) where
  quote-here : drop (n + 1) s ≡ 0x22 ∷ drop (n + 2) s
  quote-here =
      let next : n + 1 + 1 ≡ n + 2 = omega arith in
      drop-is s (n + 1) 0 0x22 (omega arith) quoted ∙ ap (λ (k : ℕ). 0x22 ∷ drop k s) next

  pub colon-bare : get_or s n 0 ≡ 0x3A → colon (drop n s) ≡ Some (drop (n + 1) s)
  colon-bare c =
      ap colon (drop-is s n 0 0x3A (omega arith) c ∙ ap (λ (t : Text). 0x3A ∷ t) quote-here) ∙ colon-quote (drop (n + 2) s) ∙ ap Some (sym quote-here)

  pub value-bare : (d : ℕ) → value d (drop (n + 1) s) ≡ behind (string (drop (n + 2) s))
  value-bare d = ap (value d) quote-here ∙ value-scalar d 0x22 (drop (n + 2) s) (λ f. omega arith) (λ f. omega arith) ∙ scalar-string (drop (n + 2) s)

-- a member of two strings
pub member-bare : (d : ℕ) (s : Text) (at i n e : ℕ) → byte 0x22 (drop at s) ≡ Some (drop i s) → at + 1 ≤ i
    → Answer (behind (string (drop i s))) s (i + 1) (Some n) → n + 2 ≤ length s
    → get_or s n 0 ≡ 0x3A → get_or s (n + 1) 0 ≡ 0x22 → Answer (behind (string (drop (n + 2) s))) s (n + 2 + 1) (Some e)
    → Answer (behind (member (value d) (drop at s))) s (at + 1) (Some e)
unfolding name
member-bare d s at i n e q low x fits c o y =
    let further : i + 1 ≤ n = x.1 in
    let last : n + 2 + 1 ≤ e = y.1 in
    (member-named (value d) (drop at s) (rw (name, q, x.0) (colon-bare s n fits o c)) (value-bare s n fits o d ∙ y.0), omega arith, y.2)
