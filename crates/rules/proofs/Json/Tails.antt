-- The bytes that end a longer character: what a turn of the loop over them keeps.
use mathlib.Core.Path.{◌≡◌, refl, ◌∙◌}
use Rattle.std.specs.Prelude.{None, Some}
use Prim.Native.Nat.{ℕ, zero, suc, ◌+◌, ◌-◌, ◌≤◌, ◌<◌}
use native.Mathlib.Numerals.{sub-one}
use native.Mathlib.Omega.{arith}
use lib.ListN.{length, drop}
use Rattle.rules.specs.Json.Text.{Text, byte_in}
use Rattle.rules.specs.Json.Strings.{tails}

pub tails-more : (k : ℕ) (t r : Text) → 0 < k → byte_in 0x80 0xBF t ≡ Some r → tails k t ≡ tails (k - 1) r
unfolding tails
tails-more zero t r h e = absurd (omega arith)
tails-more (suc k) t r h e = rw (sub-one, tails, e)

pub tails-none : (k : ℕ) (t : Text) → 0 < k → byte_in 0x80 0xBF t ≡ None → tails k t ≡ None
unfolding tails
tails-none zero t h e = absurd (omega arith)
tails-none (suc k) t h e = rw (tails, e)

pub tails_end : (k : ℕ) (t : Text) → k ≤ 0 → tails k t ≡ Some t
unfolding tails
tails_end zero t h = refl
tails_end (suc k) t h = absurd (omega arith)

-- n tails from `at` on: k are left at i
pub record Tailing (n : ℕ) (s : Text) (at i k : ℕ) : Type 0 where
  pub same : tails n (drop at s) ≡ tails k (drop i s)
  pub from : at ≤ i
  pub within : i ≤ length s

pub tailing-start : {n : ℕ} {s : Text} {at : ℕ} → at ≤ length s → Tailing n s at at n
tailing-start {at = at} h = record { same = refl; from = omega arith; within = h }

module _ {n : ℕ} {s : Text} {at i k : ℕ} (t : Tailing n s at i k) where
  pub tailing-more : {j : ℕ} → 0 < k → byte_in 0x80 0xBF (drop i s) ≡ Some (drop j s) → i + 1 ≤ j → j ≤ length s → Tailing n s at j (k - 1)
  tailing-more {j = j} p e l w =
      record {
        same = t.same ∙ tails-more k _ _ p e;
        from = omega arith;
        within = w;
      }

  pub tailing-none : 0 < k → byte_in 0x80 0xBF (drop i s) ≡ None → tails n (drop at s) ≡ None
  tailing-none p e = t.same ∙ tails-none k _ p e

  pub tailing-end : k ≤ 0 → tails n (drop at s) ≡ Some (drop i s)
  tailing-end p = t.same ∙ tails_end k _ p
