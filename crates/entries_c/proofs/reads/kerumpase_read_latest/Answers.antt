-- `kerumpase_read_latest` meets its contract.
use mathlib.Core.Path.{ap, ◌∙◌}
use Rattle.entries_c.specs.Reads.{listed_by}
use Rattle.entries_c.proofs.reads.kerumpase_read_latest.Goals as goal

pub returns : goal.returns
returns c = record {
  value = c.listed.ensures ∙ ap listed_by c.read_latest-r.ensures.answer;
  rows_after = c.read_latest-r.ensures.holds;
}
