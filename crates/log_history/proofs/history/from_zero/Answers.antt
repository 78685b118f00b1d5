-- `from_zero`: what version 0 gives is carried on by the way, as `Reaching` says.
use Rattle.rules.specs.Live.{most_live}
use Rattle.file_bundle.specs.Files.{file_in}
use Rattle.log_history.proofs.Reaching.{bundle-places, read-onward}
use native.Mathlib.Omega.{arith}
use Rattle.log_history.proofs.history.from_zero.Goals as goal

pub follow-requires : goal.follow-requires
unfolding most_live
follow-requires c =
    (c.requires.0, c.in_ok-z.ensures.2 _ _ (bundle-places _ c.requires.0) (omega arith) c.requires.1, c.requires.3)

pub returns : goal.returns
unfolding most_live
returns c =
    read-onward c.args.src.now (file_in c.args.src.now c.args.k) c.args.v.0 c.args.start c.args.t.now _ c.in_ok-z.ensures
    c.follow.new.t c.follow.result c.follow.ensures
