-- "Same answer" in the sense of demand 3, and when a checkpoint is true. Positions may differ; the facts may not.
use Rattle.std.specs.Prelude.{◌≡◌, List, [], ◌∷◌, ℕ}
use Rattle.std.specs.Prelude.{Some}
use Rattle.rules.specs.Bytes.{Bytes, holds}
use Rattle.rules.specs.Bundle.{File}
use Rattle.rules.specs.Actions.{Facts, Protocol}
use Rattle.rules.specs.Live.{Row}
use Rattle.rules.specs.History.{State}
use Rattle.rules.specs.Starts.{Log, from_checkpoint, history_to}
use Rattle.rules.specs.Picking.{value_at}
use Rattle.rules.specs.Reading.{Listing, state_by}
use Rattle.rules.specs.Refusals.{Refusal, Answer, accepted, refused}

-- what its add says of a file: size, modificationTime, numRecords (null is as missing) and partition pairs in any order (null is a value)
pub record SameFacts (f g : Facts) : Type 0 where
  pub path : f.path ≡ g.path
  pub size : f.size ≡ g.size
  pub modification_time : f.modification_time ≡ g.modification_time
  pub num_records : f.num_records ≡ g.num_records
  pub partition_values : (column : Bytes) → value_at column f.partition_values ≡ value_at column g.partition_values

-- the same paths, each with the same facts, skip count and retry time; rows are in path order
pub data SameRows : List Row → List Row → Type 0 where
  no_rows : SameRows [] []
  row : {r s : Row} {rs ss : List Row} → SameFacts r.facts s.facts → r.skip ≡ s.skip → SameRows rs ss → SameRows (r ∷ rs) (s ∷ ss)

-- the same protocol numbers and feature sets
pub record SameProtocol (p q : Protocol) : Type 0 where
  pub min_reader_version : p.min_reader_version ≡ q.min_reader_version
  pub min_writer_version : p.min_writer_version ≡ q.min_writer_version
  pub reader_features : (name : Bytes) → holds name p.reader_features ≡ holds name q.reader_features
  pub writer_features : (name : Bytes) → holds name p.writer_features ≡ holds name q.writer_features

-- the metadata in force (id, partition columns in order), the protocol in force and the live files
pub record SameState (s t : State) : Type 0 where
  pub table : s.table ≡ t.table
  pub in_force : SameProtocol s.in_force t.in_force
  pub live : SameRows s.live t.live

-- version, metaData (id, partition columns in order), protocol, verdict and the facts of the files picked
pub record SameListing (l m : Listing) : Type 0 where
  pub version : l.version ≡ m.version
  pub table : l.table ≡ m.table
  pub in_force : SameProtocol l.in_force m.in_force
  pub can_write : l.can_write ≡ m.can_write
  pub rows : SameRows l.rows m.rows

-- both accepted, and the same; or both refused by the same number
pub data SameAnswer {A : Type 0} (Same : A → A → Type 0) : Answer A → Answer A → Type 0 where
  both-accepted : {a b : A} → Same a b → SameAnswer Same (accepted a) (accepted b)
  both-refused : {r s : Refusal} → r.number ≡ s.number → SameAnswer Same (refused r) (refused s)

-- a checkpoint f at c is true when its state equals the history's at c
pub record IsTrue (log : Log) (c : ℕ) (f : File) : Type 0 where
  pub own : State
  pub history : State
  pub own_read : state_by log (Some (from_checkpoint f)) ≡ accepted own
  pub history-read : state_by log (history_to log c) ≡ accepted history
  pub same : SameState own history
