-- What two texts have in common.
use Rattle.std.specs.Prelude.{◌≡◌, ℕ, ◌+◌, ◌<◌, ◌≤◌, List, ◌≢◌, slice_index}

-- n bytes of s from i on are those of t from j on
abbrev pub Alike : List ℕ → ℕ → List ℕ → ℕ → ℕ → Type 0
Alike s i t j n = (k : ℕ) → k < n → slice_index s (i + k) ≡ slice_index t (j + k)

-- n bytes, of at most `room`, are all that s from i on and t from j on have in common: the next two differ
abbrev pub Common : List ℕ → ℕ → List ℕ → ℕ → (room n : ℕ) → Type 0
Common s i t j room n = (n ≤ room) × Alike s i t j n × (n < room → slice_index s (i + n) ≢ slice_index t (j + n))
