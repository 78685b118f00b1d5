-- Lines applied in order: one line, one file, version 0 with its own rules. Refusals 6, 21 and 7 come with the first line met.
use Rattle.std.specs.Prelude.{Bool, true, List, [], ◌∷◌, ℕ, suc, ◌+◌, leb, length}
use Rattle.std.specs.Prelude.{Option, None, Some}
use Rattle.rules.specs.Bytes.{Bytes, same_set, firsts}
use Rattle.rules.specs.Bundle.{File}
use Rattle.rules.specs.Lines.{lines, any_object}
use Rattle.rules.specs.Actions.{Facts, Protocol, unstated, MetaData, no_skip, Action, add, remove, protocol, meta_data, mergeskip, other, action}
use Rattle.rules.specs.Live.{Row, path_of, skipped, put, take_out, change}
use Rattle.rules.specs.Refusals.{Answer, accepted, ◌>>=◌, or_refuse, require, malformed, foreign_keys, too_many_live}

-- what a log says: the metadata and the protocol in force, and the live files
pub record State : Type 0 where
  pub table : MetaData
  pub in_force : Protocol
  pub live : List Row

-- what a state has before a metaData line is met
unfoldable pub no_table : MetaData
no_table = record { id = []; partition_columns = [] }

-- ---- the keys of an add

-- whose lines are read: the adds of a version file are held to the partition columns, those of a checkpoint are not
pub data Origin : Type 0 where
  of_version of_checkpoint : Origin

-- the partition keys of an add are exactly the partition columns in force, in any order; a key whose value is null is a key
unfoldable pub fits : Origin → Action → MetaData → Bool
fits of_version (add f) m = same_set (firsts f.partition_values) m.partition_columns
fits of_version (remove p) m = true
fits of_version (protocol p) m = true
fits of_version (meta_data n) m = true
fits of_version (mergeskip p s) m = true
fits of_version other m = true
fits of_checkpoint a m = true

-- ---- one line

-- the row that an add puts: nothing was said of the file since
unfoldable pub added : (at size : ℕ) → Facts → Row
added at size f = record { at = at; size = size; facts = f; skip = no_skip }

-- what the action of a line of `size` bytes at `at` does: the last metaData and the last protocol are in force
unfoldable pub effect : (at size : ℕ) → Action → State → State
effect at size (add f) st = record { table = st.table; in_force = st.in_force; live = put path_of (added at size f) st.live }
effect at size (remove p) st = record { table = st.table; in_force = st.in_force; live = take_out path_of p st.live }
effect at size (protocol p) st = record { table = st.table; in_force = p; live = st.live }
effect at size (meta_data m) st = record { table = m; in_force = st.in_force; live = st.live }
effect at size (mergeskip p s) st = record { table = st.table; in_force = st.in_force; live = change path_of p (skipped s) st.live }
effect at size other st = st

-- at most `limit` files are live
unfoldable pub within_limit : (limit entry number : ℕ) → State → Answer State
within_limit limit e k st = do
  _ ← require (too_many_live e k) (leb (length st.live) limit)
  accepted st

-- what an action does where its keys fit the columns in force at its line
unfoldable pub act : (limit : ℕ) → Origin → (entry number at size : ℕ) → Action → State → Answer State
act limit of e k at size a st = do
  _ ← require (foreign_keys e k) (fits of a st.table)
  within_limit limit e k (effect at size a st)

-- line number k of entry e, at its place in the bundle; an empty line is skipped. On one line 6, 21, 7
unfoldable pub read_line : (limit : ℕ) → Origin → (entry number at : ℕ) → Bytes → State → Answer State
read_line limit of e k at [] st = accepted st
read_line limit of e k at (b ∷ bs) st = do
  a ← or_refuse (malformed e k) (action (b ∷ bs))
  act limit of e k at (length (b ∷ bs)) a st

unfoldable pub read_lines : (limit : ℕ) → Origin → (entry number at : ℕ) → List Bytes → State → Answer State
read_lines limit of e k at [] st = accepted st
read_lines limit of e k at (l ∷ ls) st = do
  next ← read_line limit of e k at l st
  read_lines limit of e (suc k) (at + length l + 1) ls next

-- ---- one file: a file with no object is malformed, which is met at its end (line 0)

unfoldable pub read_file : (limit : ℕ) → Origin → File → State → Answer State
read_file limit of f st = do
  next ← read_lines limit of f.entry 1 f.start (lines f.body) st
  _ ← require (malformed f.entry 0) (any_object (lines f.body))
  accepted next

-- ---- version 0: exactly one metaData, at most one protocol, and no add, remove or mergeskip

-- what its lines have said so far
pub record Said : Type 0 where
  pub of_table : Option MetaData
  pub of_protocol : Option Protocol

unfoldable pub said_nothing : Said
said_nothing = record { of_table = None; of_protocol = None }

unfoldable pub say_table : Option MetaData → MetaData → Said → Option Said
say_table None m s = Some (record { of_table = Some m; of_protocol = s.of_protocol })
say_table (Some n) m s = None

unfoldable pub say_protocol : Option Protocol → Protocol → Said → Option Said
say_protocol None p s = Some (record { of_table = s.of_table; of_protocol = Some p })
say_protocol (Some q) p s = None

unfoldable pub say : Action → Said → Option Said
say (add f) s = None
say (remove p) s = None
say (protocol p) s = say_protocol s.of_protocol p s
say (meta_data m) s = say_table s.of_table m s
say (mergeskip p k) s = None
say other s = Some s

unfoldable pub zero_lines : (entry number : ℕ) → List Bytes → Said → Answer Said
zero_lines e k [] s = accepted s
zero_lines e k ([] ∷ ls) s = zero_lines e (suc k) ls s
zero_lines e k ((b ∷ bs) ∷ ls) s = do
  a ← or_refuse (malformed e k) (action (b ∷ bs))
  next ← or_refuse (malformed e k) (say a s)
  zero_lines e (suc k) ls next

unfoldable pub or_unstated : Option Protocol → Protocol
or_unstated None = unstated
or_unstated (Some p) = p

-- a missing metaData is met at the file's end (line 0)
unfoldable pub read_zero : File → Answer State
read_zero f = do
  s ← zero_lines f.entry 1 (lines f.body) said_nothing
  m ← or_refuse (malformed f.entry 0) s.of_table
  accepted (record { table = m; in_force = or_unstated s.of_protocol; live = [] })
