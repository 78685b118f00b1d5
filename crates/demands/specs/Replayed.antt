-- Demand 2: the live files, their places, the metadata and the protocol in force are exactly those that the lines on the way say, one after the
-- other.
use Rattle.std.specs.Prelude.{◌≡◌, true, false, List, [], ◌∷◌, ◌++◌, ℕ, ◌+◌, ◌≤◌, length}
use Rattle.std.specs.Prelude.{Option, None, Some}
use Rattle.facts.specs.Lists.{All}
use Rattle.rules.specs.Bytes.{Bytes, less, order, same}
use Rattle.rules.specs.Bundle.{File}
use Rattle.rules.specs.Lines.{lines}
use Rattle.rules.specs.Actions.{MetaData, Protocol, unstated, Skip, no_skip, Action, add, remove, protocol, meta_data, mergeskip, other, action}
use Rattle.rules.specs.Live.{most_live, Row, path_of}
use Rattle.rules.specs.History.{State, no_table}
use Rattle.rules.specs.Starts.{Log, Way, from_zero, from_checkpoint, and_then}
use Rattle.rules.specs.Reading.{state_by}
use Rattle.rules.specs.Refusals.{accepted}

-- ---- the lines on a way, in order

-- a line that is not empty: where it stands in the bundle, how long it is, and its action
pub record Line : Type 0 where
  pub at : ℕ
  pub size : ℕ
  pub does : Action

-- lines one behind the other, each ended by one byte, the first of them at `at`
unfoldable pub lines_from : (at : ℕ) → List Bytes → List Line
lines_from at [] = []
lines_from at ([] ∷ ls) = lines_from (at + 1) ls
lines_from at ((b ∷ bs) ∷ ls) =
    elim
    (action (b ∷ bs)) [
      | None ↦ lines_from (at + length (b ∷ bs) + 1) ls
      | Some a ↦ record { at = at; size = length (b ∷ bs); does = a } ∷ lines_from (at + length (b ∷ bs) + 1) ls
    ]

abbrev pub lines_in : File → List Line
lines_in f = lines_from f.start (lines f.body)

unfoldable pub lines_on : Way → List Line
lines_on from_zero = []
lines_on (from_checkpoint f) = lines_in f
lines_on (and_then w g) = lines_on w ++ lines_in g

unfoldable pub actions : List Line → List Action
actions [] = []
actions (l ∷ ls) = l.does ∷ actions ls

-- ---- the live file at a path

-- the same file, of which a mergeskip line says this
unfoldable pub with_skip : Skip → Option Row → Option Row
with_skip k None = None
with_skip k (Some r) = Some (record { at = r.at; size = r.size; facts = r.facts; skip = k })

-- what the action of a line at `at`, of `size` bytes, does to it
module _ (at size : ℕ) where
  -- an add puts its path into the live set or replaces the entry there, with its line's place and length, and clears skip count and retry time;
  -- a remove takes its path out, if there; a mergeskip sets both, if its path is there
  unfoldable pub after : Bytes → Action → Option Row → Option Row
  after p (add f) was = elim (same p f.path) [ true ↦ Some (record { at = at; size = size; facts = f; skip = no_skip }) | false ↦ was ]
  after p (remove q) was = elim (same p q) [ true ↦ None | false ↦ was ]
  after p (protocol x) was = was
  after p (meta_data m) was = was
  after p (mergeskip q k) was = elim (same p q) [ true ↦ with_skip k was | false ↦ was ]
  after p other was = was

unfoldable pub after_all : Bytes → List Line → Option Row → Option Row
after_all p [] was = was
after_all p (l ∷ ls) was = after_all p ls (after l.at l.size p l.does was)

unfoldable pub live_at : Bytes → List Row → Option Row
live_at p [] = None
live_at p (r ∷ rs) = elim (same p (path_of r)) [ true ↦ Some r | false ↦ live_at p rs ]

-- in path byte order, each path once
abbrev pub InPathOrder : List Row → Type 0
InPathOrder [] = Unit {0}
InPathOrder (r ∷ rs) = All (λ (s : Row). order (path_of r) (path_of s) ≡ less) rs × InPathOrder rs

-- ---- the last protocol line is in force

unfoldable pub last_protocol : List Action → Protocol → Protocol
last_protocol [] was = was
last_protocol (add f ∷ acts) was = last_protocol acts was
last_protocol (remove q ∷ acts) was = last_protocol acts was
last_protocol (protocol p ∷ acts) was = last_protocol acts p
last_protocol (meta_data m ∷ acts) was = last_protocol acts was
last_protocol (mergeskip q k ∷ acts) was = last_protocol acts was
last_protocol (other ∷ acts) was = last_protocol acts was

-- a checkpoint's lines are applied to protocol (1, 1)
unfoldable pub protocol_before : Way → Protocol → Protocol
protocol_before from_zero p = p
protocol_before (from_checkpoint f) p = unstated
protocol_before (and_then w g) p = protocol_before w p

-- ---- the last metaData line is in force

unfoldable pub last_table : List Action → MetaData → MetaData
last_table [] was = was
last_table (add f ∷ acts) was = last_table acts was
last_table (remove q ∷ acts) was = last_table acts was
last_table (protocol p ∷ acts) was = last_table acts was
last_table (meta_data m ∷ acts) was = last_table acts m
last_table (mergeskip q k ∷ acts) was = last_table acts was
last_table (other ∷ acts) was = last_table acts was

-- a checkpoint brings its own
unfoldable pub table_before : Way → MetaData → MetaData
table_before from_zero m = m
table_before (from_checkpoint f) m = no_table
table_before (and_then w g) m = table_before w m

-- ---- version 0

unfoldable pub tables_in : List Action → List MetaData
tables_in [] = []
tables_in (add f ∷ acts) = tables_in acts
tables_in (remove q ∷ acts) = tables_in acts
tables_in (protocol p ∷ acts) = tables_in acts
tables_in (meta_data m ∷ acts) = m ∷ tables_in acts
tables_in (mergeskip q k ∷ acts) = tables_in acts
tables_in (other ∷ acts) = tables_in acts

-- exactly one metaData; the protocol, or (1, 1) without one; nothing is live
pub record ZeroSays (f : File) (z : State) : Type 0 where
  pub table : tables_in (actions (lines_in f)) ≡ z.table ∷ []
  pub in_force : z.in_force ≡ last_protocol (actions (lines_in f)) unstated
  pub live : z.live ≡ []

-- ---- the state at the end of the way

pub record StateSays (log : Log) (way : Option Way) (st : State) : Type 0 where
  pub zero : File
  pub z : State
  pub w : Way
  pub zero-there : log.version_file 0 ≡ Some zero
  pub way-there : way ≡ Some w
  pub zero-says : ZeroSays zero z
  pub table : st.table ≡ last_table (actions (lines_on w)) (table_before w z.table)
  pub in_force : st.in_force ≡ last_protocol (actions (lines_on w)) (protocol_before w z.in_force)
  pub live : (p : Bytes) → live_at p st.live ≡ after_all p (lines_on w) None
  pub in_order : InPathOrder st.live
  pub few : length st.live ≤ most_live

abbrev pub ReplaysExactly : Type 0
ReplaysExactly = (log : Log) (way : Option Way) (st : State) → state_by log way ≡ accepted st → StateSays log way st
