-- A file says v where its name is the twenty digits of v and the ending.
use native.Mathlib.Omega.{arith}
use mathlib.Core.Path.{refl}
use Rattle.rules.specs.Bytes.{ascii}
use Rattle.rules.specs.Starts.{log_of}
use Rattle.log_files.specs.Logs.{digits}
use Rattle.log_files.proofs.Spellings.{checkpoint-ended, place-said}
use Rattle.log_files.proofs.checkpoint_file.Goals as goal

pub numbered_file-requires : goal.numbered_file-requires
unfolding digits
numbered_file-requires c = (omega arith, (c.requires, refl))

pub returns : goal.returns
unfolding log_of ascii
returns c = place-said checkpoint-ended c.args.s.now c.args.v.0 _ c.numbered_file.ensures.above c.numbered_file.ensures.within
