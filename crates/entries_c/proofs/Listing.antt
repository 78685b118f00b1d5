-- The answer of a reading in numbers, by its two cases.
use mathlib.Core.Path.{◌≡◌, sym, ap, ◌∙◌}
use mathlib.Core.Bool.{false}
use Rattle.refusals.specs.Numbered.{numbered}
use Rattle.refusals.specs.declared.Refusal.{Refusal}
use Rattle.reading.specs.Answers.{read_is}
use Rattle.reading.specs.declared.Listing.{Listing}
use Rattle.std.specs.Prelude.{Result, Ok, Err}
use Rattle.entries_c.specs.Codes.{refused_by, not_refused}
use Rattle.entries_c.specs.Reads.{listed_by}
use Rattle.entries_c.specs.declared.codes.Refused.{Refused}
use Rattle.entries_c.specs.declared.reads.FilesListed.{FilesListed}

abbrev files_of : Listing → Refused → FilesListed
files_of l f = record { refused = f; version = l.version.0; rows = l.rows; reader = l.reader; writer = l.writer; writable = l.writable }

abbrev nothing : Refused → FilesListed
nothing f = record { refused = f; version = 0; rows = 0; reader = 0; writer = 0; writable = false }

module _ (r : Result Listing Refusal) (f : Refused) where
  pub listed-files : (l : Listing) → r ≡ Ok l → f ≡ not_refused → files_of l f ≡ listed_by (read_is r)
  unfolding listed_by read_is
  listed-files l e g = ap (files_of l) g ∙ ap (λ (x : Result Listing Refusal). listed_by (read_is x)) (sym e)

  pub listed-refused : (x : Refusal) → r ≡ Err x → f ≡ refused_by (numbered x) → nothing f ≡ listed_by (read_is r)
  unfolding listed_by read_is
  listed-refused x e g = ap nothing g ∙ ap (λ (y : Result Listing Refusal). listed_by (read_is y)) (sym e)
