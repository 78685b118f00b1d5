-- `read_asked`: by the room, the query and the bundle, in the paper's order.
use mathlib.Core.Path.{ap}
use Rattle.rules.specs.Live.{most_live}
use Rattle.refusals.specs.Numbered.{numbered}
use Rattle.rules.specs.Bytes.{is_some}
use Rattle.reading.proofs.Rules.{reading-unasked, reading-unopened, reading-opened}
use Rattle.reading.proofs.Rooms.{read_short, answer-same}
use native.Mathlib.Omega.{arith}
use Rattle.reading.proofs.read_asked.Goals as goal

pub returns-then-rows-lt-ROWS_ROOM : goal.returns-then-rows-lt-ROWS_ROOM
returns-then-rows-lt-ROWS_ROOM c = read_short _ _ _ _ c.if-rows-lt-ROWS_ROOM.true

pub refuse-requires : goal.refuse-requires
unfolding numbered most_live
refuse-requires c = (c.if-rows-lt-ROWS_ROOM.false, λ n. omega arith)

pub returns-in_default : goal.returns-in_default
unfolding numbered
returns-in_default c = answer-same _ _ _ _ _ (reading-unasked _ _ _ _ c.if-rows-lt-ROWS_ROOM.false c.in_default.ensures) c.refuse.ensures

pub refuse-requires-in_default-open : goal.refuse-requires-in_default-open
unfolding numbered most_live
refuse-requires-in_default-open c = (c.if-rows-lt-ROWS_ROOM.false, λ n. omega arith)

pub returns-in_default-open : goal.returns-in_default-open
unfolding numbered
returns-in_default-open c =
    answer-same _ _ _ _ _
    (reading-unopened _ _ _ _ c.if-rows-lt-ROWS_ROOM.false c.in-Some.ensures.says c.in_default-open.ensures)
    c.refuse-in_default-open.ensures

pub list_asked-requires : goal.list_asked-requires
unfolding is_some most_live
list_asked-requires c = (ap is_some c.in-Some-open.ensures.1, c.if-rows-lt-ROWS_ROOM.false, c.in-Some.ensures.held.sounds)

pub returns : goal.returns
returns c =
    answer-same _ _ _ _ _ (reading-opened _ _ _ _ c.if-rows-lt-ROWS_ROOM.false c.in-Some.ensures.says c.in-Some-open.ensures.1) c.list_asked.ensures
