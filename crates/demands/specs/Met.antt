-- Refusals 6, 21 and 7: the first line met that is refused, on the way that is read, version 0 first.
use Rattle.std.specs.Prelude.{◌≡◌, true, false, List, [], ◌∷◌, ◌++◌, suc, ◌<◌, length}
use Rattle.std.specs.Prelude.{None, Some}
use Rattle.rules.specs.Bytes.{Bytes, holds, firsts}
use Rattle.rules.specs.Bundle.{File}
use Rattle.rules.specs.Lines.{lines, any_object}
use Rattle.rules.specs.Actions.{Facts, MetaData, Action, add, action}
use Rattle.rules.specs.Live.{most_live}
use Rattle.rules.specs.History.{State, Origin, of_version, of_checkpoint, Said, effect, read_lines, said_nothing, say, zero_lines, read_zero}
use Rattle.rules.specs.Starts.{Way, from_checkpoint, and_then, nothing_live, follow}
use Rattle.rules.specs.Refusals.{Refusal, accepted, malformed, foreign_keys, too_many_live}

-- ---- the paper's words

-- one of `these` is not among the names
abbrev pub Unknown : (names these : List Bytes) → Type 0
Unknown names these = (x : Bytes) × (holds x these ≡ true) × (holds x names ≡ false)

-- an add of a version file whose partition keys are not exactly the partition columns: a key that is no column, or a column that is no key
pub data Foreign : Origin → Action → MetaData → Type 0 where
  other_key : {f : Facts} {m : MetaData} → Unknown m.partition_columns (firsts f.partition_values) → Foreign of_version (add f) m
  missing-key : {f : Facts} {m : MetaData} → Unknown (firsts f.partition_values) m.partition_columns → Foreign of_version (add f) m

-- ---- a version file or a checkpoint, read from the state st on

-- a line of it that is not empty, and that is come to: the lines before it are accepted
pub record Line (of : Origin) (f : File) (st : State) : Type 0 where
  pub before : List Bytes
  pub line : Bytes
  pub behind : List Bytes
  pub split : lines f.body ≡ before ++ line ∷ behind
  pub not-empty : line ≡ [] → ⊥
  pub come-to : State
  pub accepted-before : read_lines most_live of f.entry 1 f.start before st ≡ accepted come-to

-- malformed; or foreign to the columns in force at it; or not, and more than 1,024 live after it. A file with no object is malformed, which is
-- met at its end. Lines are numbered from 1
pub data MetIn (of : Origin) (f : File) (st : State) : Refusal → Type 0 where
  malformed-line : (l : Line of f st) → action l.line ≡ None → MetIn of f st (malformed f.entry (suc (length l.before)))
  foreign : (l : Line of f st) (a : Action) → action l.line ≡ Some a → Foreign of a l.come-to.table
      → MetIn of f st (foreign_keys f.entry (suc (length l.before)))
  too_many : (l : Line of f st) (a : Action) → action l.line ≡ Some a → (Foreign of a l.come-to.table → ⊥)
      → most_live < length (effect 0 0 a l.come-to).live
      → MetIn of f st (too_many_live f.entry (suc (length l.before)))
  no-object : any_object (lines f.body) ≡ false → MetIn of f st (malformed f.entry 0)

-- ---- version 0

pub record ZeroLine (f : File) : Type 0 where
  pub before : List Bytes
  pub line : Bytes
  pub behind : List Bytes
  pub split : lines f.body ≡ before ++ line ∷ behind
  pub not-empty : line ≡ [] → ⊥
  pub said : Said
  pub accepted-before : zero_lines f.entry 1 before said_nothing ≡ accepted said

-- an add, remove or mergeskip, a second metaData, a second protocol: out of place. A missing metaData is met at the file's end
pub data MetInZero (f : File) : Refusal → Type 0 where
  malformed-line : (l : ZeroLine f) → action l.line ≡ None → MetInZero f (malformed f.entry (suc (length l.before)))
  out-of-place : (l : ZeroLine f) (a : Action) → action l.line ≡ Some a → say a l.said ≡ None
      → MetInZero f (malformed f.entry (suc (length l.before)))
  no-meta_data : (s : Said) → zero_lines f.entry 1 (lines f.body) said_nothing ≡ accepted s → s.of_table ≡ None → MetInZero f (malformed f.entry 0)

-- ---- the way

-- `z` is the state that version 0 gives
pub data MetOn (z : State) : Way → Refusal → Type 0 where
  in-checkpoint : {f : File} {r : Refusal} → MetIn of_checkpoint f nothing_live r → MetOn z (from_checkpoint f) r
  earlier : {w : Way} {g : File} {r : Refusal} → MetOn z w r → MetOn z (and_then w g) r
  in-version : {w : Way} {g : File} {r : Refusal} (st : State) → follow most_live z w ≡ accepted st → MetIn of_version g st r → MetOn z (and_then w g) r

pub data Met (zero-file : File) (w : Way) : Refusal → Type 0 where
  in-zero : {r : Refusal} → MetInZero zero-file r → Met zero-file w r
  on-way : {r : Refusal} (z : State) → read_zero zero-file ≡ accepted z → MetOn z w r → Met zero-file w r
