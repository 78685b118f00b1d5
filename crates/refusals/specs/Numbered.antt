-- The paper's number, entry and line for each case of a refusal.
use Rattle.rules.specs.Refusals as Rules
use Rattle.rules.specs.Refusals.{room_too_short, bundle_malformed, version_too_large, no_version_zero, not_kept, malformed, too_many_live, reader_too_high}
use Rattle.rules.specs.Refusals.{unknown_feature, query_malformed, no_such_column, not_writable, checkpoint_disagrees, state_malformed, too_many_manifests}
use Rattle.rules.specs.Refusals.{plain, foreign_keys}
use Rattle.refusals.specs.declared.Numbers.{Numbers}
use Rattle.refusals.specs.declared.Refusal.{Refusal}
use Rattle.refusals.specs.declared.Refusal.TheVariants.{RoomTooShort, BundleMalformed, VersionTooLarge, NoVersionZero, NotKept}
use Rattle.refusals.specs.declared.Refusal.TheVariants.{Malformed, TooManyLive, ReaderTooHigh, UnknownFeature, QueryMalformed}
use Rattle.refusals.specs.declared.Refusal.TheVariants.{NoSuchColumn, NotWritable, CheckpointDisagrees, StateMalformed, TooManyManifests}
use Rattle.refusals.specs.declared.Refusal.TheVariants.{ListRefused, OutputTooShort, ValueOutOfRange, ContainerMalformed, OtherSchema, ForeignKeys}

unfoldable pub numbered : Refusal → Rules.Refusal
numbered RoomTooShort = room_too_short
numbered BundleMalformed = bundle_malformed
numbered VersionTooLarge = version_too_large
numbered NoVersionZero = no_version_zero
numbered NotKept = not_kept
numbered (Malformed e l) = malformed e l
numbered (TooManyLive e l) = too_many_live e l
numbered ReaderTooHigh = reader_too_high
numbered UnknownFeature = unknown_feature
numbered QueryMalformed = query_malformed
numbered NoSuchColumn = no_such_column
numbered NotWritable = not_writable
numbered CheckpointDisagrees = checkpoint_disagrees
numbered StateMalformed = state_malformed
numbered TooManyManifests = too_many_manifests
numbered ListRefused = plain 16
numbered OutputTooShort = plain 17
numbered ValueOutOfRange = plain 18
numbered ContainerMalformed = plain 19
numbered OtherSchema = plain 20
numbered (ForeignKeys e l) = foreign_keys e l

-- the refusal that three numbers say
abbrev pub said : Numbers → Rules.Refusal
said n = record { number = n.number; entry = n.entry; line = n.line }
