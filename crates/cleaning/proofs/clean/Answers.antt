-- `clean` meets its contract: the rooms, then what is ruled, and then the names.
use mathlib.Core.Path.{subst, ap, ◌∙◌}
use Rattle.std.specs.Prelude.{Ok}
use Rattle.rules.specs.Live.{most_live}
use Rattle.cleaning.specs.Ruled.{RulingIs}
use Rattle.cleaning.proofs.Ending.{clean-names-short, clean-one-short, clean-two-short, clean-named, clean-nothing, clean-refused}
use Rattle.cleaning.proofs.clean.Goals as goal

pub returns-then-names-lt-NAMES_ROOM : goal.returns-then-names-lt-NAMES_ROOM
returns-then-names-lt-NAMES_ROOM c =
    clean-names-short c.args.src.now c.args.today.0 c.args.retention.0 c.args.names.now c.args.one.now c.args.two.now c.if-names-lt-NAMES_ROOM.true

pub returns-then-one-lt-ROWS_ROOM : goal.returns-then-one-lt-ROWS_ROOM
returns-then-one-lt-ROWS_ROOM c =
    clean-one-short c.args.src.now c.args.today.0 c.args.retention.0 c.args.names.now c.args.one.now c.args.two.now c.if-one-lt-ROWS_ROOM.true

pub returns-then-two-lt-ROWS_ROOM : goal.returns-then-two-lt-ROWS_ROOM
returns-then-two-lt-ROWS_ROOM c =
    clean-two-short c.args.src.now c.args.today.0 c.args.retention.0 c.args.names.now c.args.one.now c.args.two.now c.if-two-lt-ROWS_ROOM.true

pub rule-ruling-requires : goal.rule-ruling-requires
unfolding most_live
rule-ruling-requires c = (c.if-one-lt-ROWS_ROOM.false, c.if-two-lt-ROWS_ROOM.false)

pub name_old-n-requires : goal.name_old-n-requires
name_old-n-requires c =
    ((subst (RulingIs _ _) (c.in-Ok.is ∙ ap Ok c.in-Some.is) c.rule-ruling.ensures.0).1, c.if-names-lt-NAMES_ROOM.false)

pub returns-in-Some : goal.returns-in-Some
returns-in-Some c =
    let d = subst (RulingIs _ _) (c.in-Ok.is ∙ ap Ok c.in-Some.is) c.rule-ruling.ensures.0 in
    clean-named
    c.args.src.now
    c.args.today.0
    c.args.retention.0
    c.args.names.now
    c.args.one.now
    c.args.two.now
    c.if-names-lt-NAMES_ROOM.false
    c.if-one-lt-ROWS_ROOM.false
    c.if-two-lt-ROWS_ROOM.false
    _ _
    c.rule-ruling.ensures.1
    c.rule-ruling.ensures.2
    _ _
    c.zero.ensures
    c.zero-2.ensures
    _ _
    (d.0 c.args.today.0 c.args.retention.0)
    _
    c.name_old-n.result
    c.name_old-n.ensures
    c.zero_u32.ensures

pub returns-in-None : goal.returns-in-None
returns-in-None c =
    let d = subst (RulingIs _ _) (c.in-Ok.is ∙ ap Ok c.in-None.is) c.rule-ruling.ensures.0 in
    clean-nothing
    c.args.src.now
    c.args.today.0
    c.args.retention.0
    c.args.names.now
    c.args.one.now
    c.args.two.now
    c.if-names-lt-NAMES_ROOM.false
    c.if-one-lt-ROWS_ROOM.false
    c.if-two-lt-ROWS_ROOM.false
    _ _
    c.rule-ruling.ensures.1
    c.rule-ruling.ensures.2
    _ _
    c.zero.ensures
    c.zero-2.ensures
    _
    (d c.args.today.0 c.args.retention.0)
    c.zero_u32-in-None.ensures

pub returns-in-Err : goal.returns-in-Err
returns-in-Err c =
    let d = subst (RulingIs _ _) c.in-Err.is c.rule-ruling.ensures.0 in
    clean-refused
    c.args.src.now
    c.args.today.0
    c.args.retention.0
    c.args.names.now
    c.args.one.now
    c.args.two.now
    c.if-names-lt-NAMES_ROOM.false
    c.if-one-lt-ROWS_ROOM.false
    c.if-two-lt-ROWS_ROOM.false
    _ _
    c.rule-ruling.ensures.1
    c.rule-ruling.ensures.2
    _ _
    c.zero.ensures
    c.zero-2.ensures
    _
    c.in-Err.x
    (d.0 c.args.today.0 c.args.retention.0)
    d.1
    c.zero_u32-in-Err.ensures
