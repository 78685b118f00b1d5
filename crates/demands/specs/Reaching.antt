-- Starts, and what they reach, as the paper says it; beside them the way that the rules take.
use Rattle.std.specs.Prelude.{◌≡◌, ◌⊎◌, ◌↔◌, true, List, ◌∷◌, ◌++◌, ℕ, suc, ◌≤◌, ◌<◌}
use Rattle.std.specs.Prelude.{Option, None, Some}
use Rattle.rules.specs.Bytes.{Bytes}
use Rattle.rules.specs.Bundle.{File}
use Rattle.rules.specs.Lines.{lines}
use Rattle.rules.specs.Actions.{MetaData, meta_data, action}
use Rattle.rules.specs.Starts.{Log, log_of, well_formed, start_at, Way, from_zero, from_checkpoint, and_then, way_to, other_way_to}
use Rattle.rules.specs.Marker.{marked, or_zero, latest}

abbrev pub There : {A : Type 0} → Option A → Type 0
There {A} o = (x : A) × (o ≡ Some x)

-- a line of the body that says the metadata
pub record TableLine (body : Bytes) : Type 0 where
  pub before : List Bytes
  pub line : Bytes
  pub behind : List Bytes
  pub split : lines body ≡ before ++ line ∷ behind
  pub table : MetaData
  pub said : action line ≡ Some (meta_data table)

-- a checkpoint is a start exactly when it has an object, every line is well formed, and a metaData is among them
abbrev pub StartsExactly : Type 0
StartsExactly = (log : Log) (s : ℕ) (f : File)
    → (start_at log s ≡ Some f) ↔ ((log.checkpoint_file s ≡ Some f) × ((well_formed f.body ≡ true) × TableLine f.body))

-- a start is version file 0, or a checkpoint that is one
abbrev pub IsStart : Log → ℕ → Type 0
IsStart log s = ((s ≡ 0) × There (log.version_file 0)) ⊎ There (start_at log s)

-- a start at s reaches v when s <= v and version files s + 1 to v are all there
pub record Reaches (log : Log) (s v : ℕ) : Type 0 where
  pub below : s ≤ v
  pub between : (w : ℕ) → s < w → w ≤ v → There (log.version_file w)

pub record SomeStart (log : Log) (v : ℕ) : Type 0 where
  pub s : ℕ
  pub start : IsStart log s
  pub reaches : Reaches log s v

abbrev pub NoStart : Log → ℕ → Type 0
NoStart log v = (s : ℕ) → IsStart log s → Reaches log s v → ⊥

-- ---- version v is read from the highest start that reaches it; on equal s the checkpoint goes first

-- w begins at s, with version file 0 only where no checkpoint is a start there, and reads the version files s + 1 to v in order
pub data From (log : Log) : (s v : ℕ) → Way → Type 0 where
  at-checkpoint : {s : ℕ} {f : File} → start_at log s ≡ Some f → From log s s (from_checkpoint f)
  at_zero : start_at log 0 ≡ None → From log 0 0 from_zero
  and-then : {s v : ℕ} {w : Way} {g : File} → From log s v w → log.version_file (suc v) ≡ Some g → From log s (suc v) (and_then w g)

pub record Highest (log : Log) (v : ℕ) (w : Way) : Type 0 where
  pub s : ℕ
  pub begins : From log s v w
  pub highest : (t : ℕ) → IsStart log t → Reaches log t v → t ≤ s

abbrev pub ReadFromTheHighest : Type 0
ReadFromTheHighest = (log : Log) (v : ℕ) (w : Way) → (way_to log v ≡ Some w) ↔ Highest log v w

-- ---- a marked checkpoint is compared with the highest other start that reaches it

-- a start other than the checkpoint at c: version file 0, or a checkpoint elsewhere
abbrev pub IsOther : Log → (c s : ℕ) → Type 0
IsOther log c s = ((s ≡ 0) × There (log.version_file 0)) ⊎ (There (start_at log s) × (s ≡ c → ⊥))

-- w begins at s, a start other than the checkpoint at c, and reads the version files s + 1 to v in order;
-- on equal s the checkpoint goes first: with version file 0 only where no checkpoint is a start there, or c is 0
pub data FromOther (log : Log) (c : ℕ) : (s v : ℕ) → Way → Type 0 where
  other-checkpoint : {s : ℕ} {f : File} → start_at log s ≡ Some f → (s ≡ c → ⊥) → FromOther log c s s (from_checkpoint f)
  version-zero : (start_at log 0 ≡ None) ⊎ (c ≡ 0) → FromOther log c 0 0 from_zero
  and-after : {s v : ℕ} {w : Way} {g : File} → FromOther log c s v w → log.version_file (suc v) ≡ Some g → FromOther log c s (suc v) (and_then w g)

pub record HighestOther (log : Log) (c : ℕ) (w : Way) : Type 0 where
  pub s : ℕ
  pub begins : FromOther log c s c w
  pub highest : (t : ℕ) → IsOther log c t → Reaches log t c → t ≤ s

abbrev pub OtherFromTheHighest : Type 0
OtherFromTheHighest = (log : Log) (c : ℕ) (w : Way) → (other_way_to log c ≡ Some w) ↔ HighestOther log c w

-- ---- the latest version is the highest one reached from the marker's checkpoint, or from version 0: reading stops at a gap

pub record StopsAtAGap (log : Log) (from r : ℕ) : Type 0 where
  pub reached : Reaches log from r
  pub highest : (v : ℕ) → Reaches log from v → v ≤ r
  pub gap : log.version_file (suc r) ≡ None

abbrev pub LatestStopsAtAGap : Type 0
LatestStopsAtAGap = (fs : List File) → StopsAtAGap (log_of fs) (or_zero (marked (log_of fs))) (latest (log_of fs))
