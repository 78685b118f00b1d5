-- Digits found eight at a time: a run of them goes on behind those.
use mathlib.Core.Path.{◌≡◌, sym, ap, ◌∙◌, subst}
use Prim.Native.Nat.{ℕ, zero, suc, ◌+◌, ◌≤◌}
use native.Mathlib.Omega.{arith}
use lib.ListN.{length, drop}
use Rattle.rules.specs.Numbers.{is_digit}
use Rattle.rules.specs.Json.Text.{Text}
use Rattle.rules.specs.Json.Numbers.{digits}
use Rattle.bytes_eights.specs.Words.{Eight, Digits}
use Rattle.json_tokens.proofs.Runs.{digits-run, Running, running_more}

pub running-eight : (s : Text) (at i w n : ℕ) → Running digits s at i → i + n ≤ length s → Eight w s i → n ≤ 8 → Digits w n → Running digits s at (i + n)
running-eight s at i w zero r h f l d = let place : i ≡ i + 0 = omega arith in subst (Running digits s at) place r
running-eight s at i w (suc n) r h f l d =
    let place : i + n + 1 ≡ i + suc n = omega arith in
    let before = running-eight s at i w n r (omega arith) f (omega arith) (λ k m. d k (omega arith)) in
    subst (Running digits s at) place (running_more digits-run before (omega arith) (ap is_digit (sym (f n (omega arith))) ∙ d n (omega arith)))

-- a run that goes on, in the terms of a contract
abbrev Passed : Text → (at r : ℕ) → Type 0
Passed s at r = (at ≤ r) × (r ≤ length s) × (digits (drop at s) ≡ digits (drop r s))

pub running-passed : {s : Text} {at i : ℕ} → Running digits s at i → Passed s at i
running-passed r = (r.from, r.within, r.same)

pub passed-running : {s : Text} {at i : ℕ} → Passed s at i → Running digits s at i
passed-running p = record { same = p.2; from = p.0; within = p.1 }
