-- `remove_row` takes a row out: each turn moves rows down, as `Closing` says.
use Prim.Native.Nat.{◌-◌}
use Rattle.row_table.proofs.Moving.{Closing}
use Rattle.row_table.proofs.remove_row.Given as goal

abbrev pub invariant-loop-j : goal.invariant-loop-j
invariant-loop-j l = Closing l.n l.k l.initial.t l.t l.j

abbrev pub decreases-loop-j : goal.decreases-loop-j
decreases-loop-j l = l.last - l.j

abbrev pub invariant-loop-i : goal.invariant-loop-i
invariant-loop-i l = Closing l.n l.k l.fn.t l.t l.i
