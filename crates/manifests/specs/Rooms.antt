-- What is answered in the end, and the lent room then.
use Rattle.std.specs.Prelude.{◌≡◌, ℕ, length}
use Rattle.rules.specs.Bytes.{Bytes}
use Rattle.rules.specs.Rooms.{Room, counted}
use Rattle.rules.specs.Refusals.{Answer, accepted, refused}
use Rattle.rules.specs.Keeping.{keeping, room_after_keeping}
use Rattle.refusals.specs.Numbered.{numbered}
use Rattle.refusals.specs.declared.Refusal.{Refusal}
use Rattle.std.specs.Prelude.{Result, Ok, Err}

abbrev pub refused_by : Refusal → Result ℕ Refusal
refused_by x = Err x

-- how many numbers, or the paper's refusal
unfoldable pub kept_is : Result ℕ Refusal → Answer ℕ
kept_is (Ok n) = accepted n
kept_is (Err x) = refused (numbered x)

pub record KeepIs (state q : Bytes) (room after : Room) (r : Result ℕ Refusal) : Type 0 where
  pub answer : kept_is r ≡ counted (keeping (length room) state q)
  pub holds : after ≡ room_after_keeping (keeping (length room) state q) room
