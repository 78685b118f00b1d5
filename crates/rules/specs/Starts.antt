-- A log: its files by what their names say. Starts, what they reach, and the way to a version from the highest start that reaches it.
use Rattle.std.specs.Prelude.{Bool, true, false, List, [], ◌∷◌, ℕ, zero, suc}
use Rattle.std.specs.Prelude.{Option, None, Some}
use Rattle.rules.specs.Bytes.{Bytes}
use Rattle.rules.specs.Bundle.{File}
use Rattle.rules.specs.Names.{Name, name_of, version_in, checkpoint_in, is_marker, is}
use Rattle.rules.specs.Lines.{lines, any_object}
use Rattle.rules.specs.Actions.{Action, add, remove, protocol, meta_data, mergeskip, other, unstated, action}
use Rattle.rules.specs.History.{State, no_table, of_version, of_checkpoint, read_file}
use Rattle.rules.specs.Refusals.{Answer, accepted, ◌>>=◌}

-- ---- the log

pub record Log : Type 0 where
  pub version_file : ℕ → Option File
  pub checkpoint_file : ℕ → Option File
  pub marker_file : Option File

unfoldable pub find : (Name → Bool) → List File → Option File
find test [] = None
find test (f ∷ fs) = elim (test (name_of f.name)) [ true ↦ Some f | false ↦ find test fs ]

unfoldable pub log_of : List File → Log
log_of fs = record {
  version_file = λ v. find (λ n. is v (version_in n)) fs;
  checkpoint_file = λ s. find (λ n. is s (checkpoint_in n)) fs;
  marker_file = find is_marker fs;
}

-- ---- starts: version file 0, or a checkpoint with an object, every line well formed, and a metaData among them

unfoldable pub every_line : List Bytes → Bool
every_line [] = true
every_line ([] ∷ ls) = every_line ls
every_line ((b ∷ bs) ∷ ls) = elim (action (b ∷ bs)) [ None ↦ false | Some a ↦ every_line ls ]

-- a body with an object and every line well formed
unfoldable pub well_formed : Bytes → Bool
well_formed body = elim (any_object (lines body)) [ true ↦ every_line (lines body) | false ↦ false ]

unfoldable pub is_table : Option Action → Bool
is_table None = false
is_table (Some (add f)) = false
is_table (Some (remove p)) = false
is_table (Some (protocol p)) = false
is_table (Some (meta_data m)) = true
is_table (Some (mergeskip p s)) = false
is_table (Some other) = false

-- a line says the metadata
unfoldable pub says_table : List Bytes → Bool
says_table [] = false
says_table (l ∷ ls) = elim (is_table (action l)) [ true ↦ true | false ↦ says_table ls ]

unfoldable pub is_start : Bytes → Bool
is_start body = elim (well_formed body) [ true ↦ says_table (lines body) | false ↦ false ]

unfoldable pub if_start : Option File → Option File
if_start None = None
if_start (Some f) = elim (is_start f.body) [ true ↦ Some f | false ↦ None ]

-- the checkpoint at s, if it is a start
unfoldable pub start_at : Log → ℕ → Option File
start_at log s = if_start (log.checkpoint_file s)

-- ---- the way to a version

-- from a start, and then by version files, one after the other
pub data Way : Type 0 where
  from_zero : Way
  from_checkpoint : File → Way
  and_then : Way → File → Way

unfoldable pub onward_by : File → Option Way → Option Way
onward_by g None = None
onward_by g (Some w) = Some (and_then w g)

-- a version file stands behind what is come to before it
unfoldable pub by_file : Option File → (Unit {0} → Option Way) → Option Way
by_file None before = None
by_file (Some g) before = onward_by g (before tt)

-- a start at the version itself is the highest that reaches it
unfoldable pub by_start : Option File → (Unit {0} → Option Way) → Option Way
by_start (Some f) otherwise = Some (from_checkpoint f)
by_start None otherwise = otherwise tt

-- the way to v from the highest start that reaches it, on equal versions the checkpoint; none where no start does
unfoldable pub way_to : Log → ℕ → Option Way
way_to log zero = by_start (start_at log zero) (λ _. Some from_zero)
way_to log (suc v) = by_start (start_at log (suc v)) (λ _. by_file (log.version_file (suc v)) (λ _. way_to log v))

-- the way to c from the highest start other than the checkpoint at c
unfoldable pub other_way_to : Log → ℕ → Option Way
other_way_to log zero = Some from_zero
other_way_to log (suc c) = by_file (log.version_file (suc c)) (λ _. way_to log c)

-- the way of the whole history: version files 0 to v
unfoldable pub history_to : Log → ℕ → Option Way
history_to log zero = Some from_zero
history_to log (suc v) = by_file (log.version_file (suc v)) (λ _. history_to log v)

-- ---- the state at the end of a way

-- an empty set, protocol (1, 1) and no metadata yet, which a checkpoint's own lines are applied to
unfoldable pub nothing_live : State
nothing_live = record { table = no_table; in_force = unstated; live = [] }

-- `zero-state` is the state that version file 0 gives
unfoldable pub follow : (limit : ℕ) → (zero-state : State) → Way → Answer State
follow limit z from_zero = accepted z
follow limit z (from_checkpoint f) = read_file limit of_checkpoint f nothing_live
follow limit z (and_then w g) = do
  st ← follow limit z w
  read_file limit of_version g st
