-- `columns_differ` meets its contract: what is asked of all columns is asked of those from k on.
use Rattle.query_conditions.specs.Reading.{names_at}
use Rattle.rules.specs.Bytes.{distinct}
use lib.ListN.{drop}
use mathlib.Core.Path.{◌≡◌}
use Rattle.query_conditions.proofs.reading.columns_differ.Given as goal

abbrev pub invariant-loop-k : goal.invariant-loop-k
invariant-loop-k l = distinct (names_at l.q l.columns) ≡ distinct (names_at l.q (drop l.k l.columns))
