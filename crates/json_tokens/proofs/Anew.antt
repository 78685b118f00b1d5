-- A text that is handed on as its part from 0 on (`&s[0..]`, which keeps its two words in registers) is the same text: what is asked of it
-- holds, and what is answered holds of the text itself.
use mathlib.Core.Path.{◌≡◌, sym, subst}
use Prim.Native.Nat.{ℕ, ◌+◌, ◌-◌, ◌≤◌}
use native.Mathlib.Omega.{arith}
use lib.ListN.{length, take, drop}
use Rattle.facts.specs.Parts.{part}
use Rattle.facts.proofs.Parts.{part-whole}
use Rattle.rules.specs.Json.Text.{Text, Reader}
use Rattle.json_tokens.specs.Answers.{Answer}
use Rattle.std.specs.Prelude.{Option}

abbrev pub anew : Text → Text
anew s = take (length s - 0) s

pub anew-same : (s : Text) → anew s ≡ s
unfolding part
anew-same s = part-whole s (length s) (omega arith)

pub within-anew : (s : Text) (i : ℕ) → i ≤ length s → i ≤ length (anew s)
within-anew s i h = subst (λ (t : Text). i ≤ length t) (sym (anew-same s)) h

pub answer-anew : (read : Reader) (s : Text) (i : ℕ) (r : Option ℕ) → Answer (read (drop i (anew s))) (anew s) (i + 1) r → Answer (read (drop i s)) s (i + 1) r
answer-anew read s i r a = subst (λ (t : Text). Answer (read (drop i t)) t (i + 1) r) (anew-same s) a
