-- The log that demand 3 takes: all version files 0 to n and nothing above n, every file readable, every checkpoint true to the history,
-- and never more than 1,024 files live after a line of any of them. "Readable" is well formed, and no add of the history is foreign at its
-- line, which the lines before it decide.
use Rattle.std.specs.Prelude.{◌≡◌, true, false, List, ℕ, suc, ◌≤◌, ◌<◌}
use Rattle.std.specs.Prelude.{None, Some}
use Rattle.rules.specs.Bundle.{File}
use Rattle.rules.specs.Names.{any_too_large}
use Rattle.rules.specs.History.{State, read_zero}
use Rattle.rules.specs.Starts.{Log, log_of, well_formed, start_at, history_to}
use Rattle.rules.specs.Reading.{state_by}
use Rattle.rules.specs.Same.{IsTrue}
use Rattle.rules.specs.Refusals.{accepted, refused, foreign_keys, too_many_live}
use Rattle.demands.specs.Reaching.{There}

-- a true checkpoint has a state of its own: it is a start, as is said below, and never has more than 1,024 live
pub record FullHistory (fs : List File) (n : ℕ) : Type 0 where
  pub all : (w : ℕ) → w ≤ n → There ((log_of fs).version_file w)
  pub nothing_above : (w : ℕ) → n < w → ((log_of fs).version_file w ≡ None) × ((log_of fs).checkpoint_file w ≡ None)
  -- a name above 2^63-1 is above n: this is part of "nothing above n"
  pub none-too-large : any_too_large fs ≡ false
  pub zero-readable : (f : File) → (log_of fs).version_file 0 ≡ Some f → (st : State) × (read_zero f ≡ accepted st)
  pub others-readable : (w : ℕ) (f : File) → (log_of fs).version_file (suc w) ≡ Some f → well_formed f.body ≡ true
  pub none-foreign : (v e l : ℕ) → v ≤ n → state_by (log_of fs) (history_to (log_of fs) v) ≡ refused (foreign_keys e l) → ⊥
  pub checkpoints-true : (c : ℕ) (f : File) → (log_of fs).checkpoint_file c ≡ Some f → IsTrue (log_of fs) c f
  pub never-over : (v e l : ℕ) → state_by (log_of fs) (history_to (log_of fs) v) ≡ refused (too_many_live e l) → ⊥

abbrev pub TrueIsStart : Type 0
TrueIsStart = (log : Log) (c : ℕ) (f : File) → log.checkpoint_file c ≡ Some f → IsTrue log c f → start_at log c ≡ Some f
