-- Readings before and after files are removed, and runs of the cleaner.
use Rattle.std.specs.Prelude.{◌≡◌, ◌⊎◌, ◌↔◌, List, ℕ, ◌≤◌, take}
use Rattle.std.specs.Prelude.{Some}
use Rattle.rules.specs.Bytes.{Bytes}
use Rattle.rules.specs.Bundle.{File, bundle}
use Rattle.rules.specs.Starts.{Log}
use Rattle.rules.specs.Rooms.{Room}
use Rattle.rules.specs.Reading.{the_latest, the_version}
use Rattle.demands.specs.Reaching.{NoStart}
use Rattle.demands.specs.Removed.{Without, Named as InNames}
use Rattle.refusals.specs.declared.Refusal.TheVariants.{NotKept}
use Rattle.std.specs.Prelude.{Result, Err, Ok}
use Rattle.reading.specs.declared.Listing.{Listing}
use Rattle.refusals.specs.declared.Refusal.{Refusal}
use Rattle.cleaning.specs.Answers.{CleanIs}
use Rattle.demands_upheld.specs.Seen.{SameRead, ReadsSame, DueSame}

-- r', read where only `left` is left, is as r; or "not kept", and that exactly when no start is left that reaches v
pub record KeptOrNot (left : Log) (v : ℕ) (s t : Bytes) (after after' : Room) (r r' : Result Listing Refusal) : Type 0 where
  pub either : SameRead s t after after' r r' ⊎ (r' ≡ Err NotKept)
  pub exactly-when : (r' ≡ Err NotKept) ↔ NoStart left v

-- every query is answered from t as from s, at the versions from c upward and at the latest; so are the due files of the latest, at any time
pub record KeepsAnswers (c : ℕ) (s t : Bytes) : Type 0 where
  pub by_number : (q : Bytes) (v : ℕ) → c ≤ v → ReadsSame s t q (the_version v)
  pub the-latest : (q : Bytes) → ReadsSame s t q the_latest
  pub due : (time : ℕ) → DueSame s t time

-- `clean` was called on s and named n files; t is what is left of s without some or all of those whose numbers stand in the names room
pub record Run (s t : Bytes) (fs gs : List File) : Type 0 where
  pub now : ℕ
  pub retention : ℕ
  pub room : Room
  pub names : Room
  pub one : Room
  pub one' : Room
  pub two : Room
  pub two' : Room
  pub n : ℕ
  pub before : bundle s ≡ Some fs
  pub cleaned : CleanIs s now retention room names one one' two two' (Ok n)
  pub after : bundle t ≡ Some gs
  pub removed : Without (InNames (take n names)) fs gs

-- any number of runs, each stopped after any number of deletions
pub data Runs : (s t : Bytes) → Type 0 where
  not-run : {s : Bytes} → Runs s s
  once_more : {s t u : Bytes} {fs gs : List File} → Run s t fs gs → Runs t u → Runs s u
