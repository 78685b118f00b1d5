-- Demand 3, last sentence: for any log, if only files the cleaner named are removed, all or some, the versions from its checkpoint
-- upward and the latest one keep their answers. So a cleaner may stop halfway, and begin again, as often as it likes.
use Rattle.std.specs.Prelude.{◌≡◌, List, ℕ, ◌≤◌}
use Rattle.std.specs.Prelude.{Some}
use Rattle.rules.specs.Bytes.{Bytes}
use Rattle.rules.specs.Bundle.{File, bundle}
use Rattle.rules.specs.Starts.{log_of}
use Rattle.rules.specs.Marker.{marked, or_zero}
use Rattle.rules.specs.Reading.{the_latest, the_version, reading}
use Rattle.rules.specs.Due.{due}
use Rattle.rules.specs.Cleaning.{Lent, cleaning}
use Rattle.rules.specs.Same.{SameListing, SameAnswer}
use Rattle.rules.specs.Refusals.{accepted}
use Rattle.demands.specs.Removed.{Without, Named}

-- every query in every room is answered from t as from s, at the versions from c upward and at the latest; so are the due files of the latest
pub record KeepsAnswers (c : ℕ) (s t : Bytes) : Type 0 where
  pub by_number : (room : ℕ) (q : Bytes) (v : ℕ) → c ≤ v → SameAnswer SameListing (reading room s q (the_version v)) (reading room t q (the_version v))
  pub the-latest : (room : ℕ) (q : Bytes) → SameAnswer SameListing (reading room s q the_latest) (reading room t q the_latest)
  pub due : (room time : ℕ) → SameAnswer SameListing (due room s the_latest time) (due room t the_latest time)

-- the cleaner's checkpoint is the usable marker's; without a usable marker nothing is named, and all versions keep their answers
abbrev pub checkpoint_of : List File → ℕ
checkpoint_of fs = or_zero (marked (log_of fs))

-- the cleaner was run on s, and t is what is left of it: `es` are the entries named, all or some of which are gone
pub record Run (s t : Bytes) (fs gs : List File) : Type 0 where
  pub lent : Lent
  pub now : ℕ
  pub retention : ℕ
  pub es : List ℕ
  pub before : bundle s ≡ Some fs
  pub names : cleaning lent s now retention ≡ accepted es
  pub after : bundle t ≡ Some gs
  pub removed : Without (Named es) fs gs

abbrev pub LastSentence : Type 0
LastSentence = (s t : Bytes) (fs gs : List File) → Run s t fs gs → KeepsAnswers (checkpoint_of fs) s t

-- any number of runs, each stopped after any number of deletions; each numbers the entries that it finds anew
pub data Cleaned : (s t : Bytes) → Type 0 where
  not-run : {s : Bytes} → Cleaned s s
  once_more : {s t u : Bytes} {fs gs : List File} → Run s t fs gs → Cleaned t u → Cleaned s u

abbrev pub StoppedHalfway : Type 0
StoppedHalfway = (s t : Bytes) (fs : List File) → bundle s ≡ Some fs → Cleaned s t → KeepsAnswers (checkpoint_of fs) s t
