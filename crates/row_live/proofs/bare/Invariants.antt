-- `bare` leaves the places alone in the heads: each turn bares one row, as `Baring` says.
use Rattle.row_live.proofs.Baring.{Baring}
use Rattle.row_live.proofs.bare.Given as goal

abbrev pub invariant-loop-k : goal.invariant-loop-k
invariant-loop-k l = Baring l.n l.initial.t l.t l.k
