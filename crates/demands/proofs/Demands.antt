-- The three demands hold of the rules.
use Rattle.demands.specs.Demands.{Demand1, Demand2, Demand3}
use Rattle.demands.proofs.Starts.{read-from-the-highest, latest-stops}
use Rattle.demands.proofs.Ordered.{removal-keeps-order}
use Rattle.demands.proofs.Bundled.{removal-keeps-a-bundle}
use Rattle.demands.proofs.StartsExactly.{starts-exactly}
use Rattle.demands.proofs.Readable.{true-is-start}
use Rattle.demands.proofs.FirstSentence.{first-sentence, full-log-is-history}
use Rattle.demands.proofs.LastSentence.{last-sentence, stopped-halfway}
use Rattle.demands.proofs.Example.{answers-hold, example-is-full}
use Rattle.demands.proofs.Ending.{reading-ends, keeping-ends, cleaning-ends}
use Rattle.demands.proofs.LentRooms.{reading-room-ends, due-room-ends, keeping-room-ends, cleaning-rooms-end}
use Rattle.demands.proofs.Exactly.{reading-exactly}
use Rattle.demands.proofs.Due.{due-exactly, due-refuses-exactly, due-ends}
use Rattle.demands.proofs.KeepingExactly.{keeping-exactly}
use Rattle.demands.proofs.CleaningWords.{other-from-the-highest, named-exactly}
use Rattle.demands.proofs.CleaningExactly.{cleaning-exactly}
use Rattle.demands.proofs.Replayed.{replays-exactly}
use Rattle.demands.proofs.Places.{rows-stand-in-the-bundle, due-rows-stand-in-the-bundle}
use Rattle.demands.proofs.Choosing.{picks-exactly, keeps-exactly, writable-exactly}
use Rattle.demands.proofs.Skipping.{skipped-held-nothing}
use Rattle.demands.proofs.Showing.{path-is-shown, records-are-shown, directory-is-shown}
use Rattle.demands.proofs.WrongPrograms.{none-keeps-the-promise}
use Rattle.demands.proofs.WrongListings.{no-lister-keeps-the-promise}

pub demand-1 : Demand1
demand-1 = record {
  reading = reading-ends;
  due = due-ends;
  keeping = keeping-ends;
  cleaning = cleaning-ends;
  reading_room = reading-room-ends;
  due_room = due-room-ends;
  keeping_room = keeping-room-ends;
  cleaning_rooms = cleaning-rooms-end;
  path = path-is-shown;
  records = records-are-shown;
  directory = directory-is-shown;
}

pub demand-2 : Demand2
demand-2 = record {
  start = starts-exactly;
  way = read-from-the-highest;
  other = other-from-the-highest;
  latest = latest-stops;
  live = replays-exactly;
  places = rows-stand-in-the-bundle;
  verdict = writable-exactly;
  picked = picks-exactly;
  due = due-exactly;
  due_places = due-rows-stand-in-the-bundle;
  kept = keeps-exactly;
  skipped = skipped-held-nothing;
  named = named-exactly;
  reading = reading-exactly;
  due_refuses = due-refuses-exactly;
  keeping = keeping-exactly;
  cleaning = cleaning-exactly;
  wrong = none-keeps-the-promise;
  wrong_due = no-lister-keeps-the-promise;
}

pub demand-3 : Demand3
demand-3 = record {
  premise = example-is-full;
  example = answers-hold;
  start = true-is-start;
  removal = removal-keeps-order;
  bundled = removal-keeps-a-bundle;
  whole = full-log-is-history;
  first = first-sentence;
  last = last-sentence;
  halfway = stopped-halfway;
}
