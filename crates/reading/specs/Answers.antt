-- What is answered to a reading, and what the lent room then holds: the paper's number and values for each case.
use Rattle.std.specs.Prelude.{◌≡◌, not, List, ℕ, length}
use Rattle.rules.specs.Bytes.{Bytes}
use Rattle.rules.specs.Bundle.{File}
use Rattle.rules.specs.Names.{any_too_large}
use Rattle.rules.specs.Query.{Condition}
use Rattle.rules.specs.Rooms.{Room}
use Rattle.rules.specs.Starts.{log_of}
use Rattle.rules.specs.Refusals.{Answer, accepted, refused, ◌>>=◌, require, version_too_large}
use Rattle.rules.specs.Reading.{the_latest, the_version, Told, told, version_asked, listing_at, reading, room_after_reading}
use Rattle.rules.specs.Reading.{Asked as RuleAsked, Listing as RuleListing}
use Rattle.rules.specs.Due.{due}
use Rattle.refusals.specs.Numbered.{numbered}
use Rattle.std.specs.Prelude.{Option, None, Some, Result, Ok, Err}
use Rattle.file_names.specs.declared.Version.{Version}
use Rattle.reading.specs.declared.Listing.{Listing}
use Rattle.refusals.specs.declared.Refusal.{Refusal}

-- ---- what is asked for

unfoldable pub asked_is : Option Version → RuleAsked
asked_is None = the_latest
asked_is (Some v) = the_version v.0

-- what the files of a well-formed bundle answer: refusal 3, then what the version has
unfoldable pub answering : List Condition → List File → RuleAsked → Answer RuleListing
answering cs fs asked = do
  _ ← require version_too_large (not (any_too_large fs))
  listing_at cs (log_of fs) (version_asked asked (log_of fs))

-- ---- the answer

unfoldable pub read_is : Result Listing Refusal → Answer Told
read_is (Ok l) = accepted (record { version = l.version.0; count = l.rows; reader = l.reader; writer = l.writer; can_write = l.writable })
read_is (Err x) = refused (numbered x)

-- ---- the answer and the room

-- o is answered, and the room is what it leaves
pub record AnswerIs (o : Answer RuleListing) (room after : Room) (r : Result Listing Refusal) : Type 0 where
  pub answer : read_is r ≡ told o
  pub holds : after ≡ room_after_reading o room

abbrev pub ReadIs : (src q : Bytes) → RuleAsked → (room after : Room) → Result Listing Refusal → Type 0
ReadIs src q asked room after r = AnswerIs (reading (length room) src q asked) room after r

-- of the files that are due at a time, which are of the latest version
abbrev pub DueIs : (src : Bytes) → (time : ℕ) → (room after : Room) → Result Listing Refusal → Type 0
DueIs src time room after r = AnswerIs (due (length room) src the_latest time) room after r
