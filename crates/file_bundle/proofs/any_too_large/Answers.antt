-- The count is the files', and each of them is looked at.
use mathlib.Core.Path.{◌≡◌, sym, ◌∙◌}
use lib.ListN.{length}
use Rattle.std.proofs.Common.{rules, tests, arith}
use Rattle.std.proofs.iter.Serving.{serving}
use Rattle.std.proofs.lemmas.Iterator.{YieldsList-from_range}
use Rattle.std.proofs.lemmas.Iterator.Search.{any_from_yields_List}
use Rattle.rules.specs.Bundle.{field}
use Rattle.file_bundle.specs.Files.{files_in, file_in}
use Rattle.file_bundle.proofs.Reading.{files_in-count}
use Rattle.file_bundle.proofs.Large.{large_at, large-within}
use Rattle.file_bundle.proofs.any_too_large.Goals as goal

pub u32_at-requires : goal.u32_at-requires
u32_at-requires c = (files_in-count c.args.s.now c.requires).0

pub any-requires-clause-callable : goal.any-requires-clause-callable
unfolding field
any-requires-clause-callable c =
    let n : c.u32_at.result ≡ length (files_in c.args.s.now) = c.u32_at.ensures.0 ∙ sym (files_in-count c.args.s.now c.requires).1 in
    grind serving

pub returns : goal.returns
unfolding field file_in
returns c =
    let fs = files_in c.args.s.now in
    let n : c.u32_at.result ≡ length fs = c.u32_at.ensures.0 ∙ sym (files_in-count c.args.s.now c.requires).1 in
    any_from_yields_List (large_at fs) _ _ _ c.any.ensures.ran
    (YieldsList-from_range 0 c.u32_at.result c.u32_at.result (cc) (omega arith))
    (λ x b q k. search (rules, tests))
    ∙ large-within fs c.u32_at.result 0 (omega arith)
