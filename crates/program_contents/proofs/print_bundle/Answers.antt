-- Each file is one of the bundle's: there are as many as the bundle says that it opens with.
use mathlib.Core.Path.{ap, ◌∙◌}
use native.Mathlib.Omega.{arith}
use lib.ListN.{length}
use Rattle.file_bundle.specs.Files.{files_in, files_or}
use Rattle.program_contents.proofs.print_bundle.Goals as goal

pub print_file-requires : goal.print_file-requires
unfolding files_in files_or
print_file-requires c =
    let o = c.in-Some.ensures in
    let e = ap (λ fs. length (files_or fs)) o.1 ∙ o.2 in
    omega (arith, c.loop-k-test.true, e)
