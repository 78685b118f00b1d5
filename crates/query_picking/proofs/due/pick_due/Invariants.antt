-- `pick_due` moves the rows of the due files to the front: each turn passes one row, as `Fronting` says.
use Rattle.query_picking.specs.Picked.{due_row}
use Rattle.query_picking.proofs.Fronting.{Fronting}
use Rattle.query_picking.proofs.due.pick_due.Given as goal

abbrev pub invariant-loop-k : goal.invariant-loop-k
invariant-loop-k l = Fronting (due_row l.time) l.n l.initial.t l.t l.k l.m
