-- Demand 3, first sentences: from such a log remove any files except version 0; a version from 0 to n asked for by number, with a
-- well-formed query and long enough room, gets the answer that the full history gives, or "not kept", and that exactly when no start is left that reaches it.
use Rattle.std.specs.Prelude.{◌≡◌, ◌⊎◌, ◌↔◌, List, ℕ, ◌≤◌}
use Rattle.std.specs.Prelude.{Some}
use Rattle.rules.specs.Bytes.{Bytes}
use Rattle.rules.specs.Bundle.{File, bundle}
use Rattle.rules.specs.Query.{Condition, query}
use Rattle.rules.specs.Starts.{Log, log_of}
use Rattle.rules.specs.Rooms.{rows_room}
use Rattle.rules.specs.Reading.{the_version, Listing, history_listing, reading}
use Rattle.rules.specs.Same.{SameListing, SameAnswer}
use Rattle.rules.specs.Refusals.{Answer, refused, not_kept}
use Rattle.demands.specs.Reaching.{NoStart}
use Rattle.demands.specs.Removed.{Without, NotVersionZero}
use Rattle.demands.specs.FullHistory.{FullHistory}

pub record KeptOrNot (left : Log) (v : ℕ) (full answer : Answer Listing) : Type 0 where
  pub either : SameAnswer SameListing full answer ⊎ (answer ≡ refused not_kept)
  pub exactly-when : (answer ≡ refused not_kept) ↔ NoStart left v

-- `s` is the bundle of the full log, `t` one from which files were removed; `history_listing` applies version files 0 to v, one after the other
abbrev pub FirstSentence : Type 0
FirstSentence =
    (s t q : Bytes) (fs gs : List File) (cs : List Condition) (n v room : ℕ)
    → bundle s ≡ Some fs → FullHistory fs n
    → bundle t ≡ Some gs → Without NotVersionZero fs gs
    → v ≤ n → query q ≡ Some cs → rows_room ≤ room
    → KeptOrNot (log_of gs) v (history_listing cs (log_of fs) v) (reading room t q (the_version v))

-- nothing removed: the highest start, be it a checkpoint, gives what the beginning gives
abbrev pub FullLogIsHistory : Type 0
FullLogIsHistory =
    (s q : Bytes) (fs : List File) (cs : List Condition) (n v room : ℕ)
    → bundle s ≡ Some fs → FullHistory fs n → v ≤ n → query q ≡ Some cs → rows_room ≤ room
    → SameAnswer SameListing (history_listing cs (log_of fs) v) (reading room s q (the_version v))
