-- Each case says the paper's number for it.
use mathlib.Core.Path.{sym, ap, ◌∙◌}
use Rattle.refusals.specs.Numbered.{numbered}
use Rattle.refusals.proofs.numbers_of.Goals as goal

pub returns-in-RoomTooShort : goal.returns-in-RoomTooShort
unfolding numbered
returns-in-RoomTooShort c = c.plain.ensures ∙ ap numbered (sym c.in-RoomTooShort.is)

pub returns-in-BundleMalformed : goal.returns-in-BundleMalformed
unfolding numbered
returns-in-BundleMalformed c = c.plain-in-BundleMalformed.ensures ∙ ap numbered (sym c.in-BundleMalformed.is)

pub returns-in-VersionTooLarge : goal.returns-in-VersionTooLarge
unfolding numbered
returns-in-VersionTooLarge c = c.plain-in-VersionTooLarge.ensures ∙ ap numbered (sym c.in-VersionTooLarge.is)

pub returns-in-NoVersionZero : goal.returns-in-NoVersionZero
unfolding numbered
returns-in-NoVersionZero c = c.plain-in-NoVersionZero.ensures ∙ ap numbered (sym c.in-NoVersionZero.is)

pub returns-in-NotKept : goal.returns-in-NotKept
unfolding numbered
returns-in-NotKept c = c.plain-in-NotKept.ensures ∙ ap numbered (sym c.in-NotKept.is)

pub returns-in-Malformed : goal.returns-in-Malformed
unfolding numbered
returns-in-Malformed c = ap numbered (sym c.in-Malformed.is)

pub returns-in-TooManyLive : goal.returns-in-TooManyLive
unfolding numbered
returns-in-TooManyLive c = ap numbered (sym c.in-TooManyLive.is)

pub returns-in-ReaderTooHigh : goal.returns-in-ReaderTooHigh
unfolding numbered
returns-in-ReaderTooHigh c = c.plain-in-ReaderTooHigh.ensures ∙ ap numbered (sym c.in-ReaderTooHigh.is)

pub returns-in-UnknownFeature : goal.returns-in-UnknownFeature
unfolding numbered
returns-in-UnknownFeature c = c.plain-in-UnknownFeature.ensures ∙ ap numbered (sym c.in-UnknownFeature.is)

pub returns-in-QueryMalformed : goal.returns-in-QueryMalformed
unfolding numbered
returns-in-QueryMalformed c = c.plain-in-QueryMalformed.ensures ∙ ap numbered (sym c.in-QueryMalformed.is)

pub returns-in-NoSuchColumn : goal.returns-in-NoSuchColumn
unfolding numbered
returns-in-NoSuchColumn c = c.plain-in-NoSuchColumn.ensures ∙ ap numbered (sym c.in-NoSuchColumn.is)

pub returns-in-NotWritable : goal.returns-in-NotWritable
unfolding numbered
returns-in-NotWritable c = c.plain-in-NotWritable.ensures ∙ ap numbered (sym c.in-NotWritable.is)

pub returns-in-CheckpointDisagrees : goal.returns-in-CheckpointDisagrees
unfolding numbered
returns-in-CheckpointDisagrees c = c.plain-in-CheckpointDisagrees.ensures ∙ ap numbered (sym c.in-CheckpointDisagrees.is)

pub returns-in-StateMalformed : goal.returns-in-StateMalformed
unfolding numbered
returns-in-StateMalformed c = c.plain-in-StateMalformed.ensures ∙ ap numbered (sym c.in-StateMalformed.is)

pub returns-in-TooManyManifests : goal.returns-in-TooManyManifests
unfolding numbered
returns-in-TooManyManifests c = c.plain-in-TooManyManifests.ensures ∙ ap numbered (sym c.in-TooManyManifests.is)

pub returns-in-ListRefused : goal.returns-in-ListRefused
unfolding numbered
returns-in-ListRefused c = c.plain-in-ListRefused.ensures ∙ ap numbered (sym c.in-ListRefused.is)

pub returns-in-OutputTooShort : goal.returns-in-OutputTooShort
unfolding numbered
returns-in-OutputTooShort c = c.plain-in-OutputTooShort.ensures ∙ ap numbered (sym c.in-OutputTooShort.is)

pub returns-in-ValueOutOfRange : goal.returns-in-ValueOutOfRange
unfolding numbered
returns-in-ValueOutOfRange c = c.plain-in-ValueOutOfRange.ensures ∙ ap numbered (sym c.in-ValueOutOfRange.is)

pub returns-in-ContainerMalformed : goal.returns-in-ContainerMalformed
unfolding numbered
returns-in-ContainerMalformed c = c.plain-in-ContainerMalformed.ensures ∙ ap numbered (sym c.in-ContainerMalformed.is)

pub returns-in-OtherSchema : goal.returns-in-OtherSchema
unfolding numbered
returns-in-OtherSchema c = c.plain-in-OtherSchema.ensures ∙ ap numbered (sym c.in-OtherSchema.is)

pub returns-in-ForeignKeys : goal.returns-in-ForeignKeys
unfolding numbered
returns-in-ForeignKeys c = ap numbered (sym c.in-ForeignKeys.is)
