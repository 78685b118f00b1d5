-- `kerumpase_clean` meets its contract.
use mathlib.Core.Path.{sym, ap, ◌∙◌}
use Rattle.cleaning.specs.Answers.{cleaned_is}
use Rattle.entries_c.proofs.Counting.{counted-accepted, counted-refused}
use Rattle.entries_c.proofs.cleans.kerumpase_clean.Goals as goal

pub returns-in-Ok : goal.returns-in-Ok
unfolding cleaned_is
returns-in-Ok c = record {
  answer = counted-accepted (ap cleaned_is (sym c.in-Ok.is) ∙ c.clean.ensures.answer) c.accepted.ensures;
  names = c.clean.ensures.names;
  first = c.clean.ensures.first;
  second = c.clean.ensures.second;
}

pub returns-in-Err : goal.returns-in-Err
unfolding cleaned_is
returns-in-Err c = record {
  answer = counted-refused (ap cleaned_is (sym c.in-Err.is) ∙ c.clean.ensures.answer) c.refused_as.ensures;
  names = c.clean.ensures.names;
  first = c.clean.ensures.first;
  second = c.clean.ensures.second;
}
