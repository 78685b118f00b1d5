-- `say` keeps the first metaData and the first protocol.
use mathlib.Core.Path.{subst}
use Rattle.std.proofs.Common.{rules}
use Rattle.line_actions.specs.Line.{ActionIs}
use Rattle.log_replay.proofs.Zeroing.{said-else, said-malformed, said-other, said-table, said-table-twice, said-protocol, said-protocol-twice}
use Rattle.log_replay.proofs.begin.say.Goals as goal

pub returns-in-Some-Protocol : goal.returns-in-Some-Protocol
returns-in-Some-Protocol c =
    said-protocol _ _ _ c.args.entry c.args.number _ c.requires.0 c.requires.1 c.requires.2
    (rw c.in-Some-Protocol.field-0-is at c.in-Some-Protocol.ensures) c.if-said-eq0.true

pub returns-in-Some-MetaData : goal.returns-in-Some-MetaData
returns-in-Some-MetaData c =
    said-table _ _ _ c.args.entry c.args.number _ c.requires.0 c.requires.1 c.requires.2
    (rw c.in-Some-MetaData.field-0-is at c.in-Some-MetaData.ensures) c.if-said-eq0-2.true

pub returns-in-Some-Other : goal.returns-in-Some-Other
returns-in-Some-Other c =
    said-other _ _ _ c.args.entry c.args.number _ c.requires.0 c.requires.1 c.requires.2
    (rw c.in-Some-Other.field-0-is at c.in-Some-Other.ensures)

pub returns-in_default : goal.returns-in_default
returns-in_default c =
    said-protocol-twice _ _ _ c.args.entry c.args.number _ c.requires.0 c.requires.1 c.requires.2
    (rw c.in-Some-Protocol.field-0-is at c.in-Some-Protocol.ensures) c.if-said-eq0.false

pub returns-in_default-2 : goal.returns-in_default-2
returns-in_default-2 c =
    said-table-twice _ _ _ c.args.entry c.args.number _ c.requires.0 c.requires.1 c.requires.2
    (rw c.in-Some-MetaData.field-0-is at c.in-Some-MetaData.ensures) c.if-said-eq0-2.false

pub returns-in_default-3 : goal.returns-in_default-3
returns-in_default-3 c =
    let other = said-else _ _ _ c.args.entry c.args.number _ c.requires.0 c.requires.1 c.requires.2 c.in_default.field-0 in
    search (rules, other)

pub returns-in_default-4 : goal.returns-in_default-4
returns-in_default-4 c =
    said-malformed _ _ _ c.args.entry c.args.number _ c.requires.0 c.requires.1 c.requires.2 (subst (ActionIs _ _) c.in_default.is c.classify.ensures)
