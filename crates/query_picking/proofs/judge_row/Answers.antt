-- `judge_row` meets its contract: the line of the row is an add, whose values are asked.
use mathlib.Core.Path.{sym, ap, ◌∙◌}
use Rattle.rules.specs.Actions.{Facts}
use Rattle.rules.specs.Picking.{meets_all, any_out_of}
use Rattle.query_comparisons.specs.Judging.{judged_is}
use Rattle.query_conditions.specs.Reading.{conditions_of}
use Rattle.facts.specs.Parts.{part}
use Rattle.line_actions.proofs.Sole.{add-not-none}
use Rattle.log_replay.proofs.Adds.{facts_at-add}
use Rattle.query_picking.proofs.judge_row.Goals as goal

pub judge_each-requires : goal.judge_each-requires
judge_each-requires c =
    let a = c.in-Some.ensures in
    (record { ps = a.0.partition_values; pairing = a.2.values }, c.requires.1)

pub returns-in-Some : goal.returns-in-Some
unfolding part
returns-in-Some c =
    let x = c.in-Some.ensures in
    let cs = conditions_of c.args.q.now c.args.asked.count c.args.asked.conditions in
    c.judge_each.ensures x.0 x.2.values
    ∙ sym (ap (λ (f : Facts). judged_is (any_out_of cs f) (meets_all cs f)) (facts_at-add c.args.src.now c.args.c x.1))

pub returns-in-None : goal.returns-in-None
unfolding part
returns-in-None c =
    add-not-none _ c.requires.0.adds (c.in-None.ensures)
