-- `kerumpase_keep` meets its contract.
use mathlib.Core.Path.{sym, ap, ◌∙◌}
use Rattle.manifests.specs.Rooms.{kept_is}
use Rattle.entries_c.proofs.Counting.{counted-accepted, counted-refused}
use Rattle.entries_c.proofs.states.kerumpase_keep.Goals as goal

pub returns-in-Ok : goal.returns-in-Ok
unfolding kept_is
returns-in-Ok c = record {
  value = counted-accepted (ap kept_is (sym c.in-Ok.is) ∙ c.keep.ensures.answer) c.accepted.ensures;
  kept_after = c.keep.ensures.holds;
}

pub returns-in-Err : goal.returns-in-Err
unfolding kept_is
returns-in-Err c = record {
  value = counted-refused (ap kept_is (sym c.in-Err.is) ∙ c.keep.ensures.answer) c.refused_as.ensures;
  kept_after = c.keep.ensures.holds;
}
