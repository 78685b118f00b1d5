-- The first four bytes of a well-formed bundle are the count of its files.
use mathlib.Core.Path.{sym, ◌∙◌}
use Rattle.rules.specs.Bundle.{field}
use Rattle.file_bundle.proofs.Reading.{files_in-count}
use native.Mathlib.Omega.{arith}
use Rattle.log_files.proofs.count.Goals as goal

pub u32_at-requires : goal.u32_at-requires
u32_at-requires c = omega (arith, (files_in-count c.args.s.now c.requires).0)

pub returns : goal.returns
unfolding field
returns c = c.u32_at.ensures.0 ∙ sym (files_in-count c.args.s.now c.requires).1
