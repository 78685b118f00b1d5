-- Strings compared as they are spelled, as far as that tells how they stand.
use Rattle.std.specs.Prelude.{◌≡◌, ℕ, ◌+◌, ◌≤◌, ◌<◌, length, get_or}
use Rattle.rules.specs.Json.Text.{Text}

-- from a up to b no byte of t is the quote, and a backslash stands before a slash
pub record Raw (t : Text) (a b : ℕ) : Type 0 where
  pub low : a ≤ b
  pub high : b ≤ length t
  pub inside : (k : ℕ) → a ≤ k → k < b → get_or t k 0 ≡ 0x22 → ⊥
  pub slashed : (k : ℕ) → a ≤ k → k < b → get_or t k 0 ≡ 0x5C → (k + 1 < b) × (get_or t (k + 1) 0 ≡ 0x2F)

-- n bytes of t from j on do not end with a backslash
abbrev pub Whole : Text → (j n : ℕ) → Type 0
Whole t j n = (k : ℕ) → k + 1 ≡ n → get_or t (j + k) 0 ≡ 0x5C → ⊥

-- neither byte is a backslash, the first is not the quote and the second does not end an escape
pub record Tells (x y : ℕ) : Type 0 where
  pub inside : x ≡ 0x22 → ⊥
  pub first : x ≡ 0x5C → ⊥
  pub second : y ≡ 0x5C → ⊥
  pub slash : y ≡ 0x2F → ⊥
