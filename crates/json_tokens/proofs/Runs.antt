-- Runs of bytes that pass a test, as white space and digits are: what a turn of the loop over one keeps.
use mathlib.Core.Path.{◌≡◌, refl, sym, ap, ◌∙◌}
use mathlib.Core.Bool.{Bool, true, false}
use mathlib.Core.List.{[], ◌∷◌}
use Prim.Native.Nat.{ℕ, ◌+◌, ◌≤◌, ◌<◌}
use native.Mathlib.Omega.{arith}
use lib.ListN.{length, drop, get_or}
use borrow.Author.Tests.{ne_eqb}
use Rattle.rules.specs.Bytes.{first}
use Rattle.rules.specs.Numbers.{is_digit}
use Rattle.rules.specs.Json.Text.{Text, is_ws, ws}
use Rattle.rules.specs.Json.Numbers.{digits}
use Rattle.json_tokens.specs.Answers.{Skips}
use Rattle.json_tokens.proofs.Places.{here, ended}

-- `run` takes from a text the bytes in front that pass the test
pub record Run (run : Text → Text) (test : ℕ → Bool) : Type 0 where
  pub empty : run [] ≡ []
  pub more : (b : ℕ) (t : Text) → test b ≡ true → run (b ∷ t) ≡ run t
  pub stop : (b : ℕ) (t : Text) → test b ≡ false → run (b ∷ t) ≡ b ∷ t

pub ws-run : Run ws is_ws
unfolding ws
ws-run = record { empty = refl; more = λ b t e. rw (ws, e); stop = λ b t e. rw (ws, e) }

-- no byte above the space is white space
pub ws-above : (b : ℕ) → 0x20 < b → is_ws b ≡ false
unfolding is_ws first
ws-above b h =
    rw (is_ws, first, ne_eqb b 0x20 (λ e. omega arith), ne_eqb b 0x09 (λ e. omega arith), ne_eqb b 0x0A (λ e. omega arith), ne_eqb b 0x0D (λ e. omega arith))

pub digits-run : Run digits is_digit
unfolding digits
digits-run = record { empty = refl; more = λ b t e. rw (digits, e); stop = λ b t e. rw (digits, e) }

-- a run from `at` on goes on at i
pub record Running (run : Text → Text) (s : Text) (at i : ℕ) : Type 0 where
  pub same : run (drop at s) ≡ run (drop i s)
  pub from : at ≤ i
  pub within : i ≤ length s

pub running-start : {run : Text → Text} {s : Text} {at : ℕ} → at ≤ length s → Running run s at at
running-start {at = at} h = record { same = refl; from = omega arith; within = h }

module _ {run : Text → Text} {test : ℕ → Bool} (kind : Run run test) {s : Text} {at i : ℕ} (r : Running run s at i) where
  pub running_more : i < length s → test (get_or s i 0) ≡ true → Running run s at (i + 1)
  running_more h e =
      record {
        same = r.same ∙ ap run (here s i h) ∙ kind.more _ _ e;
        from = omega arith;
        within = omega arith;
      }

  pub running-stop : i < length s → test (get_or s i 0) ≡ false → Skips (run (drop at s)) s at i
  running-stop h e =
      record {
        left = r.same ∙ ap run (here s i h) ∙ kind.stop _ _ e ∙ sym (here s i h);
        from = r.from;
        within = r.within;
      }

  pub running-ended : length s ≤ i → Skips (run (drop at s)) s at i
  running-ended h =
      record {
        left = r.same ∙ ap run (ended s i h) ∙ kind.empty ∙ sym (ended s i h);
        from = r.from;
        within = r.within;
      }
