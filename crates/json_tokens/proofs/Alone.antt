-- A scanner has one answer: what is left of a text fixes the position.
use mathlib.Core.Path.{◌≡◌, refl, sym, ap, ◌∙◌}
use Rattle.std.specs.Prelude.{Option}
use Prim.Native.Nat.{ℕ, ◌-◌, ◌≤◌}
use lib.ListN.{length, drop}
use Rattle.facts.proofs.Lists.{drop-place}
use Rattle.rules.specs.Json.Text.{Text}
use Rattle.rules.proofs.Json.Suffix.{some_same, answered-none}
use Rattle.json_tokens.specs.Answers.{Answer, Skips}
use Rattle.std.specs.Prelude.{Some, None}

pub left_alone : (s : Text) (i j : ℕ) → i ≤ length s → j ≤ length s → drop i s ≡ drop j s → i ≡ j
left_alone s i j h k e = sym (drop-place s i h) ∙ ap (λ (t : Text). length s - length t) e ∙ drop-place s j k

pub answer-alone : (o : Option Text) (s : Text) (lo : ℕ) (r q : Option ℕ) → Answer o s lo r → Answer o s lo q → r ≡ q
answer-alone o s lo (Some i) (Some j) h k = ap Some (left_alone s i j h.2 k.2 (some_same (sym h.0 ∙ k.0)))
answer-alone o s lo (Some i) None h k = answered-none h.0 k
answer-alone o s lo None (Some j) h k = answered-none k.0 h
answer-alone o s lo None None h k = refl

pub skips-alone : (rest s : Text) (at r q : ℕ) → Skips rest s at r → Skips rest s at q → r ≡ q
skips-alone rest s at r q h k = left_alone s r q h.within k.within (sym h.left ∙ k.left)
