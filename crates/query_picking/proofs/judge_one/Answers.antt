-- `judge_one` meets its contract: the member under the column's name, by whether it is there and a string.
use mathlib.Core.Path.{◌∙◌}
use Rattle.query_conditions.specs.Conditions.{condition_of}
use Rattle.field_containers.proofs.Pairs.{standing}
use Rattle.query_picking.proofs.Values.{says-missing, says-string, says-null}
use Rattle.query_picking.proofs.judge_one.Goals as goal

pub find_name-requires : goal.find_name-requires
find_name-requires c =
    (c.requires.0.pairing.within, standing c.requires.0.pairing, c.requires.1.column)

pub returns-in_default : goal.returns-in_default
returns-in_default c =
    λ ps w. says-missing (condition_of c.args.q.now c.args.c) w.ms w.each
    (c.in_default.ensures (standing w))

pub string_at-requires : goal.string_at-requires
string_at-requires c =
    let f = c.in-Some.ensures (standing c.requires.0.pairing) in
    (f.1, f.2)

pub returns-in_default-string_at : goal.returns-in_default-string_at
returns-in_default-string_at c =
    λ ps w.
    let f = c.in-Some.ensures (standing w) in
    says-null (condition_of c.args.q.now c.args.c) w.ms w.each _ f.0
    (c.in_default-string_at.ensures)

pub judge_at-requires : goal.judge_at-requires
judge_at-requires c =
    (c.requires.1, (c.in-Some-string_at.ensures).0.spelled)

pub returns : goal.returns
returns c =
    λ ps w.
    let f = c.in-Some.ensures (standing w) in
    c.judge_at.ensures ∙ says-string (condition_of c.args.q.now c.args.c) w.ms w.each _ f.0
    (c.in-Some-string_at.ensures).0.says
