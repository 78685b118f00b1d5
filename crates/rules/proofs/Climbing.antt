-- The climb to the latest version: its bound is never met, since no version is above 2^63 - 1.
use mathlib.Core.Path.{◌≡◌, refl, sym, ap, ◌∙◌}
use Rattle.std.specs.Prelude.{Option, None, Some}
use Prim.Native.Nat.{ℕ, zero, suc, ◌+◌, ◌-◌, ◌≤◌, ◌<◌}
use native.Mathlib.Omega.{arith}
use Rattle.rules.specs.Bundle.{File}
use Rattle.rules.specs.Starts.{Log}
use Rattle.rules.specs.Marker.{climb_by, climb}
use Rattle.rules.specs.Numbers.{most}

climb-some : (n : ℕ) (log : Log) (w : ℕ) {f : File} → log.version_file (suc w) ≡ Some f → climb (suc n) log w ≡ climb n log (suc w)
unfolding climb climb_by
climb-some n log w e = rw (climb, e)

climb-none : (n : ℕ) (log : Log) (w : ℕ) → log.version_file (suc w) ≡ None → climb n log w ≡ w
unfolding climb climb_by
climb-none zero log w e = refl
climb-none (suc n) log w e = rw (climb, e)

pub climb-above : (n : ℕ) (log : Log) (s : ℕ) → s ≤ climb n log s
unfolding climb climb_by
climb-above zero log s = omega arith
climb-above (suc n) log s = go (log.version_file (suc s)) (climb-above n log (suc s))
  where
    go : (o : Option File) → suc s ≤ climb n log (suc s) → s ≤ climb_by o s (λ _. climb n log (suc s))
    go None h = omega arith
    go (Some f) h = omega arith

-- up from v the climb is at w, with n still allowed
pub record Climbing (log : Log) (v w : ℕ) : Type 0 where
  pub n : ℕ
  pub bound : n + w ≡ most + v
  pub same : climb most log v ≡ climb n log w

pub climbing-start : (log : Log) (v : ℕ) → Climbing log v v
climbing-start log v = record { n = most; bound = refl; same = refl }

module _ {log : Log} {v w : ℕ} (c : Climbing log v w) where
  pub climbing-end : log.version_file (w + 1) ≡ None → w ≡ climb most log v
  climbing-end e =
      let s : w + 1 ≡ suc w = omega arith in
      sym (c.same ∙ climb-none c.n log w (rw s at e))

  pub climbing-next : w < most → {f : File} → log.version_file (w + 1) ≡ Some f → Climbing log v (w + 1)
  climbing-next l e =
      let s : w + 1 ≡ suc w = omega arith in
      let b : c.n + w ≡ most + v = c.bound in
      let m : c.n ≡ suc (c.n - 1) = omega arith in
      record {
        n = c.n - 1;
        bound = omega arith;
        same = c.same ∙ ap (λ (k : ℕ). climb k log w) m ∙ climb-some (c.n - 1) log w (rw s at e) ∙ ap (climb (c.n - 1) log) (sym s);
      }
