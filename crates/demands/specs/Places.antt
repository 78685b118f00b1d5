-- Demand 2: each row of an answer says where in the bundle the line of its add stands.
use Rattle.std.specs.Prelude.{◌≡◌, ◌++◌, ℕ, length}
use Rattle.facts.specs.Lists.{All}
use Rattle.rules.specs.Bytes.{Bytes}
use Rattle.rules.specs.Live.{Row}
use Rattle.rules.specs.Reading.{Asked, Listing, reading}
use Rattle.rules.specs.Due.{due}
use Rattle.rules.specs.Refusals.{accepted}
use Rattle.demands.specs.Showing.{IsAdd}

-- at the row's place in s, of the row's length, is a line that is a well-formed add of the row's facts
pub record StandsIn (s : Bytes) (r : Row) : Type 0 where
  pub before : Bytes
  pub line : Bytes
  pub behind : Bytes
  pub parts : s ≡ before ++ (line ++ behind)
  pub place : length before ≡ r.at
  pub long : length line ≡ r.size
  pub says : IsAdd line r.facts

abbrev pub RowsStandInTheBundle : Type 0
RowsStandInTheBundle = (room : ℕ) (s q : Bytes) (asked : Asked) (l : Listing) → reading room s q asked ≡ accepted l → All (StandsIn s) l.rows

abbrev pub DueRowsStandInTheBundle : Type 0
DueRowsStandInTheBundle = (room : ℕ) (s : Bytes) (asked : Asked) (time : ℕ) (l : Listing) → due room s asked time ≡ accepted l → All (StandsIn s) l.rows
