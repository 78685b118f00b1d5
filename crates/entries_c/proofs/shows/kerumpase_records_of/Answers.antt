-- `kerumpase_records_of` meets its contract.
use mathlib.Core.Path.{ap, ◌∙◌}
use Rattle.std.specs.Prelude.{Some}
use Rattle.entries_c.proofs.Showing.{records-by}
use Rattle.entries_c.proofs.shows.kerumpase_records_of.Goals as goal

pub returns-in_default : goal.returns-in_default
returns-in_default c = records-by c.args.line.now c.records_of.ensures c.in_default.is

pub returns-in-Some-records : goal.returns-in-Some-records
returns-in-Some-records c = records-by c.args.line.now c.records_of.ensures (c.in-Some.is ∙ ap Some c.in-Some-records.is)

pub returns-in-None : goal.returns-in-None
returns-in-None c = records-by c.args.line.now c.records_of.ensures (c.in-Some.is ∙ ap Some c.in-None.is)
