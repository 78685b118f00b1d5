-- `path_of` meets its contract.
use Rattle.facts.specs.Parts.{part}
use Rattle.shown.proofs.Lines.{writes-standing, nothing-path}
use Rattle.shown.proofs.path_of.Goals as goal

pub slice_bounds-result-count : goal.slice_bounds-result-count
slice_bounds-result-count c = (writes-standing _ c.in-Some.ensures).ordered

pub slice_bounds-result-start : goal.slice_bounds-result-start
slice_bounds-result-start c = (writes-standing _ c.in-Some.ensures).ordered

pub slice_bounds-result-end : goal.slice_bounds-result-end
slice_bounds-result-end c = (writes-standing _ c.in-Some.ensures).within

pub returns-in-Some : goal.returns-in-Some
unfolding part
returns-in-Some c = (writes-standing _ c.in-Some.ensures).path

pub returns-in-None : goal.returns-in-None
returns-in-None c = nothing-path _ c.in-None.ensures
