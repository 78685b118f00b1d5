-- The part that the entry tells is its file's, by the law of file k.
use native.Mathlib.Omega.{arith}
use Rattle.file_bundle.proofs.Reading.{found}
use Rattle.file_bundle.proofs.Answering.{body-part}
use Rattle.facts.specs.Parts.{part}
use Rattle.file_bundle.proofs.body_in.Goals as goal

pub overflow_mul-e_start : goal.overflow_mul-e_start
overflow_mul-e_start c = omega (arith, (found _ _ c.requires).contents)

pub overflow_add-e_start : goal.overflow_add-e_start
overflow_add-e_start c = omega (arith, (found _ _ c.requires).contents)

pub overflow_add-e_start-2 : goal.overflow_add-e_start-2
overflow_add-e_start-2 c = omega (arith, (found _ _ c.requires).contents)

pub u32_at-a-requires : goal.u32_at-a-requires
u32_at-a-requires c = omega (arith, (found _ _ c.requires).contents)

pub overflow_add-e_start-3 : goal.overflow_add-e_start-3
overflow_add-e_start-3 c = omega (arith, (found _ _ c.requires).contents)

pub u32_at-requires : goal.u32_at-requires
u32_at-requires c = omega (arith, (found _ _ c.requires).contents)

pub slice_bounds-result-end : goal.slice_bounds-result-end
slice_bounds-result-end c =
    omega (arith, (found _ _ c.requires).contents, body-part c.args.s.now c.args.k (found _ _ c.requires) _ _ c.u32_at-a.ensures.0 c.u32_at.ensures.0)

pub returns : goal.returns
unfolding part
returns c =
    (body-part c.args.s.now c.args.k (found _ _ c.requires) _ _ c.u32_at-a.ensures.0 c.u32_at.ensures.0).2
