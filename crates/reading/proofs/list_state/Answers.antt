-- `list_state`: by the verdict of the gate.
use Rattle.rules.specs.Live.{most_live}
use Rattle.log_replay.specs.Views.{state_of}
use Rattle.reading.proofs.Rules.{listing-ungated}
use Rattle.reading.proofs.Rooms.{answer-same}
use Rattle.reading.proofs.list_state.Goals as goal

pub refuse-requires : goal.refuse-requires
unfolding most_live
refuse-requires c = (c.requires.0.room, c.in-Err.ensures.1)

pub list_picked-requires : goal.list_picked-requires
unfolding state_of
list_picked-requires c = (c.requires.0, c.requires.1, c.in-Ok.ensures)

pub returns-in-Err : goal.returns-in-Err
unfolding state_of
returns-in-Err c = answer-same _ _ _ _ _ (listing-ungated _ _ _ _ c.in-Err.ensures.0) c.refuse.ensures
