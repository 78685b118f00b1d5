-- What C gets of the cleaner, and what its rooms then hold.
use Rattle.std.specs.Prelude.{◌≡◌, ℕ}
use Rattle.rules.specs.Bytes.{Bytes}
use Rattle.rules.specs.Rooms.{Room, counted}
use Rattle.rules.specs.Cleaning.{cleaning, names_after_cleaning, table_after_cleaning}
use Rattle.cleaning.specs.Answers.{lent}
use Rattle.entries_c.specs.Codes.{counted_by}
use Rattle.entries_c.specs.declared.codes.Counted.{Counted}

pub record NamedIs (src : Bytes) (today retention : ℕ) (room room' one one' two two' : Room) (r : Counted) : Type 0 where
  pub answer : r ≡ counted_by (counted (cleaning (lent room one two) src today retention))
  pub names : room' ≡ names_after_cleaning (cleaning (lent room one two) src today retention) room
  pub first : one' ≡ table_after_cleaning (cleaning (lent room one two) src today retention) one
  pub second : two' ≡ table_after_cleaning (cleaning (lent room one two) src today retention) two
