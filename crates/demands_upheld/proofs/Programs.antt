-- Demand 2 of the entries, with the wrong programs: the promise that none of them keeps is the entries' own.
use mathlib.Core.Logic.{◌↔◌}
use Rattle.demands.specs.WrongPrograms.{KeepsPromise, NotWrong}
use Rattle.demands.specs.WrongListings.{KeepsPromise as KeepsListing, NotWrong as NotWrongListing}
use Rattle.demands.proofs.WrongPrograms.{none-keeps-the-promise}
use Rattle.demands.proofs.WrongListings.{no-lister-keeps-the-promise}
use Rattle.demands_upheld.specs.Programs.{Program, KeepsReadIs, reader_of, DueProgram, KeepsDueIs, lister_of}
use Rattle.demands_upheld.specs.Upheld.{Demand2}
use Rattle.demands_upheld.proofs.Answering.{lists-upheld, due-listed, names-upheld, keeps-upheld}
use Rattle.demands_upheld.proofs.Refusing.{reading-refuses, due-refuses, cleaning-refuses, keeping-refuses}

promise-kept : (p : Program) → KeepsReadIs p ↔ KeepsPromise (reader_of p)
promise-kept p = (
  (λ k. record { answers = λ room s q asked. (k room s q asked).answer; table = λ room s q asked. (k room s q asked).holds }),
  (λ k room s q asked. record { answer = k.answers room s q asked; holds = k.table room s q asked }),
)

none-wrong : (p : Program) → KeepsReadIs p → NotWrong (reader_of p)
none-wrong p k = none-keeps-the-promise (reader_of p) ((promise-kept p).0 k)

due-promise-kept : (p : DueProgram) → KeepsDueIs p ↔ KeepsListing (lister_of p)
due-promise-kept p = (
  (λ k. record { answers = λ room s time. (k room s time).answer; table = λ room s time. (k room s time).holds }),
  (λ k room s time. record { answer = k.answers room s time; holds = k.table room s time }),
)

none-wrong-due : (p : DueProgram) → KeepsDueIs p → NotWrongListing (lister_of p)
none-wrong-due p k = no-lister-keeps-the-promise (lister_of p) ((due-promise-kept p).0 k)

pub demand-2 : Demand2
demand-2 = record {
  lists = lists-upheld;
  due = due-listed;
  names = names-upheld;
  keeps = keeps-upheld;
  reading = reading-refuses;
  due_refuses = due-refuses;
  cleaning = cleaning-refuses;
  keeping = keeping-refuses;
  promise = promise-kept;
  wrong = none-wrong;
  due_promise = due-promise-kept;
  wrong_due = none-wrong-due;
}
