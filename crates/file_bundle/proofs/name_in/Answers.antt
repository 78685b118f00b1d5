-- The part that the entry tells is its file's, by the law of file k.
use native.Mathlib.Omega.{arith}
use Rattle.file_bundle.proofs.Reading.{found}
use Rattle.file_bundle.proofs.Answering.{name-part}
use Rattle.facts.specs.Parts.{part}
use Rattle.file_bundle.proofs.name_in.Goals as goal

pub overflow_mul-a : goal.overflow_mul-a
overflow_mul-a c = omega (arith, (found _ _ c.requires).contents)

pub overflow_add-a : goal.overflow_add-a
overflow_add-a c = omega (arith, (found _ _ c.requires).contents)

pub overflow_add-a_end : goal.overflow_add-a_end
overflow_add-a_end c = omega (arith, (found _ _ c.requires).contents)

pub slice_bounds-name_size-end : goal.slice_bounds-name_size-end
slice_bounds-name_size-end c = omega (arith, (found _ _ c.requires).contents)

pub overflow_add-b : goal.overflow_add-b
overflow_add-b c =
    omega (arith, (found _ _ c.requires).contents, name-part c.args.s.now c.args.k (found _ _ c.requires) _ c.name_size.ensures.0 c.name_size.ensures.1)

pub slice_bounds-result-end : goal.slice_bounds-result-end
slice_bounds-result-end c =
    omega (arith, (found _ _ c.requires).contents, name-part c.args.s.now c.args.k (found _ _ c.requires) _ c.name_size.ensures.0 c.name_size.ensures.1)

pub returns : goal.returns
unfolding part
returns c =
    (name-part c.args.s.now c.args.k (found _ _ c.requires) _ c.name_size.ensures.0 c.name_size.ensures.1).1
