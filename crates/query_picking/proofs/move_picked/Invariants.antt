-- `move_picked` moves the rows of the picked files to the front: each turn judges one row, as `Fronting` says.
use Rattle.rules.specs.Picking.{meets_all}
use Rattle.row_table.specs.declared.Cells.{Cells}
use Rattle.log_replay.specs.Views.{facts_at}
use Rattle.query_conditions.specs.Reading.{conditions_of}
use Rattle.query_picking.proofs.Fronting.{Fronting}
use Rattle.query_picking.proofs.Fronting.{Ranging}
use Rattle.query_picking.proofs.move_picked.Given as goal

abbrev pub invariant-loop-k : goal.invariant-loop-k
invariant-loop-k l =
    Fronting (λ (c : Cells). meets_all (conditions_of l.q l.asked.count l.asked.conditions) (facts_at l.src c)) l.n l.initial.t l.t l.k l.m
    × Ranging l.src (conditions_of l.q l.asked.count l.asked.conditions) l.n l.initial.t l.k
