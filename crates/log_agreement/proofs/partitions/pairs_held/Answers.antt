-- `pairs_held` meets its contract: no pairs are all held.
use Rattle.log_agreement.proofs.Passing.{pairing-empty, pairing-more}
use Rattle.log_agreement.proofs.partitions.pairs_held.Goals as goal

pub returns-in-More : goal.returns-in-More
returns-in-More c =
    λ ps qs v w. c.held_from.ensures ps qs (pairing-more c.args.s.now c.args.at ps v c.in-More.first c.in-More.ensures) w

pub returns-in_default : goal.returns-in_default
returns-in_default c =
    λ ps qs v w. pairing-empty c.args.s.now c.args.at ps v c.opening.result c.opening.ensures c.in_default.not-More qs
