-- The entries that are named, in front of a lent room.
use Rattle.std.specs.Prelude.{◌≡◌, List, ℕ, ◌≤◌, length, take, drop}
use Rattle.rules.specs.Rooms.{Room}

-- the first n numbers of the room, which became `after`, are es
pub record Naming (es : List ℕ) (room after : Room) (n : ℕ) : Type 0 where
  pub count : length es ≡ n
  pub few : n ≤ 1024
  pub front : take n after ≡ es
  pub beyond : drop 1024 after ≡ drop 1024 room
  pub same : length after ≡ length room
