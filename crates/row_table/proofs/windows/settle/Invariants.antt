-- `settle` meets its contract: each turn writes one row in its place, as `Settling` says.
use Rattle.row_table.proofs.Settling.{Settling}
use Rattle.row_table.proofs.windows.settle.Given as goal

abbrev pub invariant-loop-k : goal.invariant-loop-k
invariant-loop-k l = Settling l.base l.n l.initial.t l.t l.k
