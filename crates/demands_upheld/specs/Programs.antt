-- Programs that read, and that list the due files, by their results: those that the promise of the entries allows.
use Rattle.std.specs.Prelude.{ℕ}
use Rattle.rules.specs.Bytes.{Bytes}
use Rattle.rules.specs.Rooms.{Room}
use Rattle.rules.specs.Reading.{Asked}
use Rattle.demands.specs.WrongPrograms.{Reader}
use Rattle.demands.specs.WrongListings.{Lister}
use Rattle.reading.specs.Answers.{read_is, ReadIs, DueIs}
use Rattle.std.specs.Prelude.{Result}
use Rattle.reading.specs.declared.Listing.{Listing}
use Rattle.refusals.specs.declared.Refusal.{Refusal}

-- ---- reading

-- what a program answers, and what it leaves in the room
pub record Program : Type 0 where
  pub answers : Room → (s q : Bytes) → Asked → Result Listing Refusal
  pub leaves : Room → (s q : Bytes) → Asked → Room

-- each of its results is one that the entries' promise allows
abbrev pub KeepsReadIs : Program → Type 0
KeepsReadIs p = (room : Room) (s q : Bytes) (asked : Asked) → ReadIs s q asked room (p.leaves room s q asked) (p.answers room s q asked)

-- the same program, answering in the paper's numbers
abbrev pub reader_of : Program → Reader
reader_of p = record { answer = λ room s q asked. read_is (p.answers room s q asked); leaves = p.leaves }

-- ---- the files due for a second merge

pub record DueProgram : Type 0 where
  pub answers : Room → (s : Bytes) → (time : ℕ) → Result Listing Refusal
  pub leaves : Room → (s : Bytes) → (time : ℕ) → Room

abbrev pub KeepsDueIs : DueProgram → Type 0
KeepsDueIs p = (room : Room) (s : Bytes) (time : ℕ) → DueIs s time room (p.leaves room s time) (p.answers room s time)

abbrev pub lister_of : DueProgram → Lister
lister_of p = record { answer = λ room s time. read_is (p.answers room s time); leaves = p.leaves }
