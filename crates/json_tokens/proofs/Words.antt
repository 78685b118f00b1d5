-- A word against a text: what a turn of the loop over its bytes keeps.
use mathlib.Core.Path.{◌≡◌, refl, ap, ◌∙◌}
use mathlib.Core.List.{[], ◌∷◌}
use Rattle.std.specs.Prelude.{None, Some}
use Prim.Native.Nat.{ℕ, ◌+◌, ◌≤◌, ◌<◌}
use native.Mathlib.Omega.{arith}
use lib.Dec.{eqb}
use lib.ListN.{length, drop, get_or}
use Rattle.rules.specs.Bytes.{Bytes, ◌>>=◌}
use Rattle.rules.specs.Json.Text.{Text, byte, word}
use Rattle.rules.proofs.Tests.{by}
use Rattle.json_tokens.proofs.Places.{here, ended}

-- a word is its first byte and then its others
word-byte : (c : ℕ) (w t : Bytes) → word (c ∷ w) t ≡ (byte c t >>= word w)
unfolding word byte
word-byte c w [] = refl
word-byte c w (b ∷ t) = by (eqb b c) (λ e. rw (word, byte, e)) (λ e. rw (word, byte, e))

-- the word from `at` on has been met up to its byte j and the position i
pub record Met (w : Bytes) (s : Text) (at i j : ℕ) : Type 0 where
  pub same : word w (drop at s) ≡ word (drop j w) (drop i s)
  pub from : at ≤ i
  pub within : i ≤ length s

pub met_start : {w : Bytes} {s : Text} {at : ℕ} → at ≤ length s → Met w s at at 0
met_start {at = at} h = record { same = refl; from = omega arith; within = h }

module _ {w : Bytes} {s : Text} {at i j : ℕ} (m : Met w s at i j) where
  -- by the byte j of the word
  met-byte : j < length w → word w (drop at s) ≡ (byte (get_or w j 0) (drop i s) >>= word (drop (j + 1) w))
  met-byte p = m.same ∙ ap (λ (v : Bytes). word v (drop i s)) (here w j p) ∙ word-byte _ _ _

  pub met-more : j < length w → {k : ℕ} → byte (get_or w j 0) (drop i s) ≡ Some (drop k s) → i + 1 ≤ k → k ≤ length s → Met w s at k (j + 1)
  met-more p e l h = record { same = met-byte p ∙ rw e; from = omega arith; within = h }

  pub met-none : j < length w → byte (get_or w j 0) (drop i s) ≡ None → word w (drop at s) ≡ None
  met-none p e = met-byte p ∙ rw e

  pub met-whole : length w ≤ j → word w (drop at s) ≡ Some (drop i s)
  unfolding word
  met-whole p = m.same ∙ rw (ended w j p)
