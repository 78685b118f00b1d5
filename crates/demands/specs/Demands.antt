-- The customer's three demands, as far as they speak of the rules. The promises of the code are equations with the rules' definitions,
-- so that what is said here of `reading`, `due`, `keeping`, `cleaning` and of what is shown is said of the code.
use Rattle.rules.specs.Edges.{Holds}
use Rattle.demands.specs.Reaching.{StartsExactly, ReadFromTheHighest, OtherFromTheHighest, LatestStopsAtAGap}
use Rattle.demands.specs.Removed.{RemovalKeepsOrder, RemovalKeepsABundle}
use Rattle.demands.specs.FullHistory.{TrueIsStart}
use Rattle.demands.specs.FirstSentence.{FirstSentence, FullLogIsHistory}
use Rattle.demands.specs.LastSentence.{LastSentence, StoppedHalfway}
use Rattle.demands.specs.Example.{ExampleIsFull, answers}
use Rattle.demands.specs.Ending.{ReadingEnds, DueEnds, KeepingEnds, CleaningEnds, ReadingRoomEnds, DueRoomEnds, KeepingRoomEnds, CleaningRoomsEnd}
use Rattle.demands.specs.Exactly.{ReadingRefusesExactly, KeepingRefusesExactly}
use Rattle.demands.specs.Due.{DueExactly, DueRefusesExactly}
use Rattle.demands.specs.CleaningExactly.{CleaningRefusesExactly, NamedExactly}
use Rattle.demands.specs.Replayed.{ReplaysExactly}
use Rattle.demands.specs.Places.{RowsStandInTheBundle, DueRowsStandInTheBundle}
use Rattle.demands.specs.Choosing.{PicksExactly, KeepsExactly, WritableExactly}
use Rattle.demands.specs.Skipping.{SkippedHeldNothing}
use Rattle.demands.specs.Showing.{PathIsShown, RecordsAreShown, DirectoryIsShown}
use Rattle.demands.specs.WrongPrograms.{NoneKeepsThePromise}
use Rattle.demands.specs.WrongListings.{NoListerKeepsThePromise}

-- every entry ends with an answer or a numbered refusal; room too short is untouched; after any other refusal the stated rooms hold zeros
pub record Demand1 : Type 0 where
  pub reading : ReadingEnds
  pub due : DueEnds
  pub keeping : KeepingEnds
  pub cleaning : CleaningEnds
  pub reading_room : ReadingRoomEnds
  pub due_room : DueRoomEnds
  pub keeping_room : KeepingRoomEnds
  pub cleaning_rooms : CleaningRoomsEnd
  pub path : PathIsShown
  pub records : RecordsAreShown
  pub directory : DirectoryIsShown

-- the live files, the verdict, the files picked, the files due, the manifests kept and the files named are exactly those of the rules;
-- each refusal is given when its rule says so, and only then
pub record Demand2 : Type 0 where
  pub start : StartsExactly
  pub way : ReadFromTheHighest
  pub other : OtherFromTheHighest
  pub latest : LatestStopsAtAGap
  pub live : ReplaysExactly
  pub places : RowsStandInTheBundle
  pub verdict : WritableExactly
  pub picked : PicksExactly
  pub due : DueExactly
  pub due_places : DueRowsStandInTheBundle
  pub kept : KeepsExactly
  pub skipped : SkippedHeldNothing
  pub named : NamedExactly
  pub reading : ReadingRefusesExactly
  pub due_refuses : DueRefusesExactly
  pub keeping : KeepingRefusesExactly
  pub cleaning : CleaningRefusesExactly
  pub wrong : NoneKeepsThePromise
  pub wrong_due : NoListerKeepsThePromise

-- with any files but version 0 removed: the full history's answer or "not kept"; with named files removed: the same answers
pub record Demand3 : Type 1 where
  pub premise : ExampleIsFull
  pub example : Holds answers
  pub start : TrueIsStart
  pub removal : RemovalKeepsOrder
  pub bundled : RemovalKeepsABundle
  pub whole : FullLogIsHistory
  pub first : FirstSentence
  pub last : LastSentence
  pub halfway : StoppedHalfway
