-- What `fill` writes is zeros.
use Rattle.rooms.proofs.Filled.{filled}
use Rattle.rooms.proofs.zero.Goals as goal

pub returns : goal.returns
returns c = filled c.args.from c.args.to c.args.t.now _ c.requires.0 c.requires.1 (c.fill.ensures.after (λ y e. e))
