-- Answers by number: how they are made, seen from an earlier position, and of a text that is handed on anew.
use mathlib.Core.Path.{◌≡◌, subst, ◌∙◌}
use Rattle.std.specs.Prelude.{Option, None}
use Prim.Native.Nat.{ℕ, ◌+◌, ◌≤◌, ◌<◌}
use native.Mathlib.Omega.{arith}
use lib.ListN.{drop}
use Rattle.rules.specs.Json.Text.{Text, Reader}
use Rattle.json_tokens.specs.Answers.{Answer}
use Rattle.std.specs.Prelude.{Some}
use Rattle.json_tokens.proofs.Places.{answer-from}
use Rattle.json_tokens.proofs.Anew.{anew, anew-same}
use Rattle.json_values.specs.Numbered.{Numbered}

pub numbered-none : {o : Option Text} {s : Text} {lo : ℕ} → o ≡ None → Numbered o s lo 0
numbered-none e = record { nothing = λ _. e; found = λ h. absurd (omega arith) }

-- a position is no 0 where it lies behind a byte
pub numbered-at : {o : Option Text} {s : Text} {lo r : ℕ} → 0 < lo → Answer o s lo (Some r) → Numbered o s lo r
numbered-at {lo = lo} {r} h a =
    let further : lo ≤ r = a.1 in
    record { nothing = λ e. absurd (omega arith); found = λ _. a }

-- an answer from further on, where the reader says the same
pub numbered-from : (o o' : Option Text) (s : Text) (lo lo' r : ℕ) → Numbered o s lo r → lo' ≤ lo → o' ≡ o → Numbered o' s lo' r
numbered-from o o' s lo lo' r a h e = record { nothing = λ z. e ∙ a.nothing z; found = λ p. answer-from o o' s lo lo' (Some r) (a.found p) h e }

pub numbered-anew : (read : Reader) (s : Text) (i r : ℕ) → Numbered (read (drop i (anew s))) (anew s) (i + 1) r → Numbered (read (drop i s)) s (i + 1) r
numbered-anew read s i r a = subst (λ (t : Text). Numbered (read (drop i t)) t (i + 1) r) (anew-same s) a
