-- `list_at`: by what the way to the version gave; what it wrote into the room does not matter.
use mathlib.Core.Path.{subst}
use Rattle.rules.specs.Live.{most_live}
use Rattle.log_replay.specs.Answers.{OutcomeIs}
use Rattle.rules.proofs.Later.{Later, later-listing, later-refused}
use Rattle.reading.proofs.Rules.{listing_at-state, listing_at-refused}
use Rattle.reading.proofs.Rooms.{left-long, answer-left, answer-same}
use Rattle.reading.proofs.list_at.Goals as goal

pub state_at-requires : goal.state_at-requires
unfolding most_live
state_at-requires c =
    (c.requires.0, c.requires.1)

pub list_state-requires : goal.list_state-requires
list_state-requires c =
    let d = subst (OutcomeIs _ _ _ _ _) c.in-Ok.is c.state_at.ensures in
    (d.1.carries, c.requires.2)

pub refuse-requires : goal.refuse-requires
refuse-requires c =
    let d = subst (OutcomeIs _ _ _ _ _) c.in-Err.is c.state_at.ensures in
    (left-long _ _ d.1 c.requires.1, later-refused _ _ d.0)

pub returns-in-Ok : goal.returns-in-Ok
returns-in-Ok c =
    let d = subst (OutcomeIs _ _ _ _ _) c.in-Ok.is c.state_at.ensures in
    answer-same _ _ _ _ _ (listing_at-state _ _ _ _ d.0) (answer-left _ _ _ _ _ (later-listing _ _ _) d.1.left c.list_state.ensures)

pub returns-in-Err : goal.returns-in-Err
unfolding Later
returns-in-Err c =
    let d = subst (OutcomeIs _ _ _ _ _) c.in-Err.is c.state_at.ensures in
    answer-same _ _ _ _ _ (listing_at-refused _ _ _ _ d.0) (answer-left _ _ _ _ _ (later-refused _ _ d.0) d.1 c.refuse.ensures)
