-- What reading comes to, once the room, the query, the bundle and its names are passed; rooms that are long enough are all one.
use mathlib.Core.Path.{◌≡◌}
use mathlib.Core.Bool.{false}
use Rattle.std.specs.Prelude.{Some}
use mathlib.Core.List.{List}
use Prim.Native.Nat.{ℕ, ◌≤◌}
use borrow.Author.Tests.{le-leb}
use Rattle.rules.specs.Bytes.{Bytes}
use Rattle.rules.specs.Bundle.{File, bundle}
use Rattle.rules.specs.Names.{any_too_large}
use Rattle.rules.specs.Starts.{log_of}
use Rattle.rules.specs.Query.{Condition, query}
use Rattle.rules.specs.Rooms.{rows_room}
use Rattle.rules.specs.Reading.{Asked, version_asked, listing_at, reading}

pub reading-is : (room : ℕ) (s q : Bytes) (asked : Asked) (cs : List Condition) (fs : List File) → rows_room ≤ room → query q ≡ Some cs → bundle s ≡ Some fs
    → any_too_large fs ≡ false
    → reading room s q asked ≡ listing_at cs (log_of fs) (version_asked asked (log_of fs))
unfolding reading
reading-is room s q asked cs fs r eq es small = rw (le-leb rows_room room r, eq, es, small)

pub reading-room-same : (a b : ℕ) (s q : Bytes) (asked : Asked) → rows_room ≤ a → rows_room ≤ b → reading a s q asked ≡ reading b s q asked
unfolding reading
reading-room-same a b s q asked h k = rw (le-leb rows_room a h, le-leb rows_room b k)
