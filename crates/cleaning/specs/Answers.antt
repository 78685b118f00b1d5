-- What is answered in the end, and what the lent rooms hold.
use Rattle.std.specs.Prelude.{◌≡◌, ℕ, length}
use Rattle.rules.specs.Bytes.{Bytes}
use Rattle.rules.specs.Rooms.{Room, counted}
use Rattle.rules.specs.Refusals.{Answer, accepted, refused}
use Rattle.rules.specs.Cleaning.{Lent, cleaning, names_after_cleaning, table_after_cleaning}
use Rattle.refusals.specs.Numbered.{numbered}
use Rattle.std.specs.Prelude.{Result, Ok, Err}
use Rattle.refusals.specs.declared.Refusal.{Refusal}

-- how many are named, or the paper's refusal
unfoldable pub cleaned_is : Result ℕ Refusal → Answer ℕ
cleaned_is (Ok n) = accepted n
cleaned_is (Err x) = refused (numbered x)

-- the rooms as they are lent
abbrev pub lent : (names one two : Room) → Lent
lent names one two = record { names = length names; table₁ = length one; table₂ = length two }

pub record CleanIs (src : Bytes) (today retention : ℕ) (room room' one one' two two' : Room) (r : Result ℕ Refusal) : Type 0 where
  pub answer : cleaned_is r ≡ counted (cleaning (lent room one two) src today retention)
  pub names : room' ≡ names_after_cleaning (cleaning (lent room one two) src today retention) room
  pub first : one' ≡ table_after_cleaning (cleaning (lent room one two) src today retention) one
  pub second : two' ≡ table_after_cleaning (cleaning (lent room one two) src today retention) two
