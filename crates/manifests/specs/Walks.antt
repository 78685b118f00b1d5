-- The lent room while manifests are judged one after another.
use Rattle.std.specs.Prelude.{◌≡◌, Bool, true, false, not, ◌&&◌, List, ℕ, ◌+◌, ◌≤◌, ltb, length, take, drop, set}
use Rattle.std.specs.Prelude.{Option, None, Some}
use Rattle.rules.specs.Bytes.{◌>>=◌}
use Rattle.rules.specs.Json.Text.{Text}
use Rattle.rules.specs.Query.{Condition}
use Rattle.rules.specs.Manifests.{Manifest, manifests_in, dropped, kept_from}
use Rattle.rules.specs.Rooms.{Room}

-- ---- one manifest more, number k, behind n that are kept

-- its number is written: it is kept, and there is room for its number
abbrev pub written : List Condition → Manifest → (k : ℕ) → Bool
written cs x k = not (dropped cs x) && ltb k 256

abbrev pub Stepped : Bool → (n k : ℕ) → Room → (m : ℕ) → Room → Type 0
Stepped true n k room m after = (m ≡ n + 1) × (after ≡ set room n k)
Stepped false n k room m after = (m ≡ n) × (after ≡ room)

abbrev pub TurnIs : Option Manifest → List Condition → (n k : ℕ) → Room → Room → Option ℕ → Type 0
TurnIs o cs n k room after (Some m) = (x : Manifest) × (o ≡ Some x) × Stepped (written cs x k) n k room m after
TurnIs o cs n k room after None = (o ≡ None) × (after ≡ room)

-- ---- the manifests ms, of which n are kept

pub record Beyond (room after : Room) : Type 0 where
  pub same : length after ≡ length room
  pub beyond : drop 256 after ≡ drop 256 room

pub record Noted (cs : List Condition) (ms : List Manifest) (n : ℕ) (room after : Room) : Type 0 where
  pub few : n ≤ length ms
  pub least : n ≤ 256
  pub numbers : length ms ≤ 256 → take n after ≡ kept_from 0 cs ms
  pub outer : Beyond room after

pub record Walked (o : Option (List Text × Text)) (cs : List Condition) (u : Text) (room after : Room) (end k n : ℕ) : Type 0 where
  pub vs : List Text
  pub ms : List Manifest
  pub all : o ≡ Some (vs, drop end u)
  pub each : manifests_in vs ≡ Some ms
  pub count : length ms ≡ k
  pub noted : Noted cs ms n room after
  pub within : end ≤ length u

abbrev pub WalkIs : Option (List Text × Text) → List Condition → Text → Room → Room → Option (ℕ × ℕ × ℕ) → Type 0
WalkIs o cs u room after (Some (end, k, n)) = Walked o cs u room after end k n
WalkIs o cs u room after None = ((o >>= (λ p. manifests_in p.0)) ≡ None) × Beyond room after

abbrev pub CountedIs : Option (List Manifest) → List Condition → Room → Room → Option (ℕ × ℕ × ℕ) → Type 0
CountedIs o cs room after (Some (end, k, n)) = (ms : List Manifest) × (o ≡ Some ms) × (length ms ≡ k) × Noted cs ms n room after
CountedIs o cs room after None = (o ≡ None) × Beyond room after
