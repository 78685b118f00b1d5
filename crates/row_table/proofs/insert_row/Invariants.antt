-- `insert_row` puts a row in: each turn moves rows up, as `Opening` says, and the last store fills the gap.
use Rattle.row_table.proofs.Moving.{Opening}
use Rattle.row_table.proofs.insert_row.Given as goal

abbrev pub invariant-loop-j : goal.invariant-loop-j
invariant-loop-j l = Opening l.n l.k l.initial.t l.t l.j

abbrev pub decreases-loop-j : goal.decreases-loop-j
decreases-loop-j l = l.j

abbrev pub invariant-loop-i : goal.invariant-loop-i
invariant-loop-i l = Opening l.n l.k l.fn.t l.t l.i
