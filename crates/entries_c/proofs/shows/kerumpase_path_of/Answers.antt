-- `kerumpase_path_of` meets its contract.
use mathlib.Core.Path.{sym, ap, ◌∙◌}
use Rattle.shown.proofs.Lines.{writes-standing, nothing-place}
use Rattle.entries_c.specs.Shows.{place_by}
use Rattle.entries_c.proofs.Showing.{standing-place}
use Rattle.entries_c.proofs.shows.kerumpase_path_of.Goals as goal

pub overflow_sub-result : goal.overflow_sub-result
overflow_sub-result c = (writes-standing _ (sym c.in-Some.is ∙ c.judge.ensures)).ordered

pub returns-in-Some : goal.returns-in-Some
returns-in-Some c = standing-place (writes-standing _ (sym c.in-Some.is ∙ c.judge.ensures))

pub returns-in-None : goal.returns-in-None
unfolding place_by
returns-in-None c = sym (ap place_by (nothing-place _ (sym c.in-None.is ∙ c.judge.ensures)))
