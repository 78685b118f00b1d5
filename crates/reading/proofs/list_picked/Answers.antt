-- `list_picked`: by the columns of the conditions, and then the picked rows as `Picked` says.
use mathlib.Core.Path.{sym, ◌∙◌}
use Rattle.rules.specs.Live.{most_live}
use Rattle.refusals.specs.Numbered.{numbered}
use Rattle.query_conditions.specs.Reading.{columns_of}
use Rattle.log_replay.specs.Views.{state_of}
use Rattle.reading.proofs.Rules.{listing-columns}
use Rattle.reading.proofs.Rooms.{answer-same}
use Rattle.reading.proofs.Picked.{settled-room, settled-stands, picks-few, picks-long, answer-listed, answer-range}
use native.Mathlib.Omega.{arith}
use Rattle.reading.proofs.list_picked.Goals as goal

pub settle-requires : goal.settle-requires
settle-requires c = omega (arith, c.requires.0.few, c.requires.0.room)

pub pick-requires : goal.pick-requires
pick-requires c =
    (settled-room _ _ _ c.requires.0 _ c.settle.ensures, settled-stands _ _ _ c.requires.0 _ c.settle.ensures, c.requires.1)

pub bare-requires : goal.bare-requires
bare-requires c =
    let p = c.in-Ok.ensures in
    omega (arith, p.1.few, p.1.length, settled-room _ _ _ c.requires.0 _ c.settle.ensures)

pub overflow_mul-end : goal.overflow_mul-end
unfolding most_live
overflow_mul-end c =
    let p = c.in-Ok.ensures in
    omega (arith, p.1.few, c.requires.0.few)

pub zero-requires : goal.zero-requires
zero-requires c =
    let p = c.in-Ok.ensures in (
      omega (arith, picks-few _ _ _ _ c.requires.0 _ c.settle.ensures _ _ _ p.1 c.bare.ensures),
      picks-long _ _ _ _ c.requires.0 _ c.settle.ensures _ _ _ p.1 c.bare.ensures,
    )

pub refuse-requires : goal.refuse-requires
unfolding numbered
refuse-requires c =
    let p = c.in-Err.ensures in
    (omega (arith, c.requires.0.room, c.settle.ensures.length, p.2), λ n. omega arith)

pub returns-in-Ok : goal.returns-in-Ok
unfolding state_of columns_of
returns-in-Ok c =
    let p = c.in-Ok.ensures in
    answer-listed _ _ _ _ c.requires.0 _ c.settle.ensures _ _ _ p.1 c.bare.ensures _ _ _ c.requires.2 (sym c.all_columns.ensures ∙ c.if-all_columns.true) p.0
    c.zero.ensures

pub returns-in-Err : goal.returns-in-Err
unfolding state_of columns_of numbered
returns-in-Err c =
    let p = c.in-Err.ensures in
    answer-range _ _ _ _ c.requires.0 _ c.settle.ensures _ _ _ _ _ c.requires.2 (sym c.all_columns.ensures ∙ c.if-all_columns.true) p c.refuse.ensures

pub refuse-requires-2 : goal.refuse-requires-2
unfolding numbered
refuse-requires-2 c = (c.requires.0.room, λ n. omega arith)

pub returns : goal.returns
unfolding state_of columns_of numbered
returns c =
    answer-same _ _ _ _ _
    (listing-columns _ _ _ c.requires.2.accepts
    (sym c.all_columns.ensures ∙ c.if-all_columns.false))
    c.refuse-2.ensures
