-- The customer's three demands, of the entries: of every answer, and every room beside it, that their promises allow. `read_at` and
-- `read_latest` promise `ReadIs`, `read_due` promises `DueIs`, `clean` promises `CleanIs` and `keep` promises `KeepIs`, whatever is lent to
-- them. `path_of`, `records_of` and `directory` promise what the rules show, so that `Showing` of `demands` speaks of them as it stands.
use Rattle.std.specs.Prelude.{◌≡◌, ◌↔◌, List, [], ◌∷◌, ℕ, ◌*◌, ◌≤◌, length, take}
use Rattle.std.specs.Prelude.{Some}
use Rattle.rules.specs.Bytes.{Bytes}
use Rattle.rules.specs.Bundle.{File, bundle}
use Rattle.rules.specs.Starts.{log_of}
use Rattle.rules.specs.Query.{Condition, query}
use Rattle.rules.specs.Rooms.{Room, rows_room, kept_room, names_room, row_width}
use Rattle.rules.specs.Reading.{Asked, the_version, Told}
use Rattle.demands.specs.Removed.{Without, NotVersionZero}
use Rattle.demands.specs.FullHistory.{FullHistory}
use Rattle.demands.specs.LastSentence.{checkpoint_of}
use Rattle.demands.specs.Ending.{Ends, RoomEnds}
use Rattle.demands.specs.WrongPrograms.{KeepsPromise, NotWrong}
use Rattle.demands.specs.WrongListings.{KeepsPromise as KeepsListing, NotWrong as NotWrongListing}
use Rattle.refusals.specs.declared.Refusal.{Refusal}
use Rattle.reading.specs.Answers.{read_is, ReadIs, DueIs}
use Rattle.reading.specs.declared.Listing.{Listing}
use Rattle.std.specs.Prelude.{Result, Ok, Err}
use Rattle.cleaning.specs.Answers.{cleaned_is, lent, CleanIs}
use Rattle.manifests.specs.Rooms.{kept_is, KeepIs}
use Rattle.demands_upheld.specs.Refusing.{ReadingRule, DueRule, CleaningRule, KeepingRule}
use Rattle.demands_upheld.specs.Answering.{ListsExactly, DueExactly, KeepsExactly, NamesExactly}
use Rattle.demands_upheld.specs.Removing.{KeptOrNot, KeepsAnswers, Run, Runs}
use Rattle.demands_upheld.specs.Programs.{Program, KeepsReadIs, reader_of, DueProgram, KeepsDueIs, lister_of}

-- ---- 1. "Every public entry takes any bundle, query, version, time and lent room, and ends with an answer or a numbered refusal. Room that
-- is too short is left untouched. After any other refusal the stated rooms hold zeros."

-- the numbers of the rows that are told of
abbrev pub rows_told : Room → Told → List ℕ
rows_told after t = take (t.count * row_width) after

pub record ReadingEnds (room after : Room) (r : Result Listing Refusal) : Type 0 where
  pub ends : Ends (1 ∷ 10 ∷ 2 ∷ 3 ∷ 4 ∷ 5 ∷ 6 ∷ 21 ∷ 7 ∷ 8 ∷ 9 ∷ 11 ∷ 18 ∷ []) (read_is r)
  pub table : RoomEnds rows_room (rows_told after) (read_is r) room after

-- no query is asked, and the latest version is always kept
pub record DueEnds (room after : Room) (r : Result Listing Refusal) : Type 0 where
  pub ends : Ends (1 ∷ 2 ∷ 3 ∷ 4 ∷ 6 ∷ 21 ∷ 7 ∷ 8 ∷ 9 ∷ []) (read_is r)
  pub table : RoomEnds rows_room (rows_told after) (read_is r) room after

pub record CleaningEnds (room room' one one' two two' : Room) (r : Result ℕ Refusal) : Type 0 where
  pub ends : Ends (1 ∷ 2 ∷ 3 ∷ 4 ∷ 6 ∷ 21 ∷ 7 ∷ 8 ∷ 9 ∷ 12 ∷ 13 ∷ []) (cleaned_is r)
  pub names : RoomEnds names_room (λ (n : ℕ). take n room') (cleaned_is r) room room'
  pub first : RoomEnds rows_room (λ (n : ℕ). []) (cleaned_is r) one one'
  pub second : RoomEnds rows_room (λ (n : ℕ). []) (cleaned_is r) two two'

pub record KeepingEnds (room after : Room) (r : Result ℕ Refusal) : Type 0 where
  pub ends : Ends (1 ∷ 10 ∷ 14 ∷ 15 ∷ []) (kept_is r)
  pub numbers : RoomEnds kept_room (λ (n : ℕ). take n after) (kept_is r) room after

pub record Demand1 : Type 0 where
  pub reading : (s q : Bytes) (asked : Asked) (room after : Room) (r : Result Listing Refusal) → ReadIs s q asked room after r → ReadingEnds room after r
  pub due : (s : Bytes) (time : ℕ) (room after : Room) (r : Result Listing Refusal) → DueIs s time room after r → DueEnds room after r
  pub cleaning : (s : Bytes) (now retention : ℕ) (room room' one one' two two' : Room) (r : Result ℕ Refusal)
      → CleanIs s now retention room room' one one' two two' r → CleaningEnds room room' one one' two two' r
  pub keeping : (state q : Bytes) (room after : Room) (r : Result ℕ Refusal) → KeepIs state q room after r → KeepingEnds room after r

-- ---- 2. "The live files, the protocol verdict, the files a query picks, the manifests it keeps and the log files the cleaner names are
-- exactly those of the written rules. Each refusal is given when its rule says so, and only then."

pub record Demand2 : Type 0 where
  pub lists : (s q : Bytes) (asked : Asked) (room after : Room) (l : Listing) → ReadIs s q asked room after (Ok l) → ListsExactly s q asked after l
  pub due : (s : Bytes) (time : ℕ) (room after : Room) (l : Listing) → DueIs s time room after (Ok l) → DueExactly s time after l
  pub names : (s : Bytes) (now retention : ℕ) (room room' one one' two two' : Room) (n : ℕ)
      → CleanIs s now retention room room' one one' two two' (Ok n) → NamesExactly (lent room one two) s now retention room' n
  pub keeps : (state q : Bytes) (room after : Room) (n : ℕ) → KeepIs state q room after (Ok n) → KeepsExactly state q after n
  pub reading : (s q : Bytes) (asked : Asked) (room after : Room) (r : Result Listing Refusal)
      → ReadIs s q asked room after r → (x : Refusal) → (r ≡ Err x) ↔ ReadingRule (length room) s q asked x
  pub due_refuses : (s : Bytes) (time : ℕ) (room after : Room) (r : Result Listing Refusal)
      → DueIs s time room after r → (x : Refusal) → (r ≡ Err x) ↔ DueRule (length room) s x
  pub cleaning : (s : Bytes) (now retention : ℕ) (room room' one one' two two' : Room) (r : Result ℕ Refusal)
      → CleanIs s now retention room room' one one' two two' r → (x : Refusal) → (r ≡ Err x) ↔ CleaningRule (lent room one two) s x
  pub keeping : (state q : Bytes) (room after : Room) (r : Result ℕ Refusal)
      → KeepIs state q room after r → (x : Refusal) → (r ≡ Err x) ↔ KeepingRule (length room) state q x
  -- "These must break the promise": the paper's wrong programs. What they break is the entries' own promise
  pub promise : (p : Program) → KeepsReadIs p ↔ KeepsPromise (reader_of p)
  pub wrong : (p : Program) → KeepsReadIs p → NotWrong (reader_of p)
  -- and the wrong programs that list the due files
  pub due_promise : (p : DueProgram) → KeepsDueIs p ↔ KeepsListing (lister_of p)
  pub wrong_due : (p : DueProgram) → KeepsDueIs p → NotWrongListing (lister_of p)

-- ---- 3. "Take a log with all version files 0 to n and nothing above n, every file readable, every checkpoint true to the history, and never
-- more than 1,024 files live after a line of any of them. Remove any files except version 0. A version from 0 to n asked for by number, with a
-- well-formed query and long enough rooms, then gets the answer that the full history gives, or "not kept", and "not kept" exactly when no
-- start is left that reaches it. For any log, if only files the cleaner named are removed, all or some, the versions from its checkpoint upward
-- and the latest one keep their answers."

pub record Demand3 : Type 0 where
  -- r is read from the full log s, r' from t; the log without its checkpoints is such a t, and is read from the beginning
  pub first : (s t q : Bytes) (fs gs : List File) (cs : List Condition) (n v : ℕ) (room after room' after' : Room) (r r' : Result Listing Refusal)
      → bundle s ≡ Some fs → FullHistory fs n → bundle t ≡ Some gs → Without NotVersionZero fs gs
      → v ≤ n → query q ≡ Some cs → rows_room ≤ length room → rows_room ≤ length room'
      → ReadIs s q (the_version v) room after r → ReadIs t q (the_version v) room' after' r'
      → KeptOrNot (log_of gs) v s t after after' r r'
  pub last : (s t : Bytes) (fs gs : List File) → Run s t fs gs → KeepsAnswers (checkpoint_of fs) s t
  -- "every order in which a cleaner may stop halfway"
  pub halfway : (s t : Bytes) (fs : List File) → bundle s ≡ Some fs → Runs s t → KeepsAnswers (checkpoint_of fs) s t
