-- `same_rows` meets its contract: what is asked of all rows is asked of those from k on.
use Rattle.log_agreement.proofs.Views.{Going}
use Rattle.log_agreement.proofs.same_rows.Given as goal

abbrev pub invariant-loop-k : goal.invariant-loop-k
invariant-loop-k l = Going l.src l.n l.ta l.tb l.k
