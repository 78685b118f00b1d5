-- A refusal's number, entry and line fix its case, and it fixes them: two refusals that say the same are equal.
use mathlib.Core.Path.{◌≡◌, refl, sym, ap, ◌∙◌}
use mathlib.Core.List.{List, [], ◌∷◌}
use Prim.Native.Nat.{◌-◌}
use lib.ListN.{get_or}
use Rattle.rules.specs.Refusals as Rules
use Rattle.refusals.specs.Numbered.{numbered, said}
use Rattle.refusals.specs.declared.Numbers.{Numbers}
use Rattle.refusals.specs.declared.Refusal.{Refusal}
use Rattle.refusals.specs.declared.Refusal.TheVariants.{RoomTooShort, BundleMalformed, VersionTooLarge, NoVersionZero, NotKept}
use Rattle.refusals.specs.declared.Refusal.TheVariants.{Malformed, TooManyLive, ReaderTooHigh, UnknownFeature, QueryMalformed}
use Rattle.refusals.specs.declared.Refusal.TheVariants.{NoSuchColumn, NotWritable, CheckpointDisagrees, StateMalformed, TooManyManifests}
use Rattle.refusals.specs.declared.Refusal.TheVariants.{ListRefused, OutputTooShort, ValueOutOfRange, ContainerMalformed, OtherSchema, ForeignKeys}

-- the cases, in the order of their numbers from 1
cases : Rules.Refusal → List Refusal
cases r =
    RoomTooShort ∷ BundleMalformed ∷ VersionTooLarge ∷ NoVersionZero ∷ NotKept
    ∷ Malformed r.entry r.line ∷ TooManyLive r.entry r.line
    ∷ ReaderTooHigh ∷ UnknownFeature ∷ QueryMalformed ∷ NoSuchColumn ∷ NotWritable ∷ CheckpointDisagrees
    ∷ StateMalformed ∷ TooManyManifests ∷ ListRefused ∷ OutputTooShort ∷ ValueOutOfRange ∷ ContainerMalformed ∷ OtherSchema
    ∷ ForeignKeys r.entry r.line ∷ []

case_of : Rules.Refusal → Refusal
case_of r = get_or (cases r) (r.number - 1) RoomTooShort

case_of-numbered : (x : Refusal) → case_of (numbered x) ≡ x
unfolding numbered case_of cases
case_of-numbered RoomTooShort = refl
case_of-numbered BundleMalformed = refl
case_of-numbered VersionTooLarge = refl
case_of-numbered NoVersionZero = refl
case_of-numbered NotKept = refl
case_of-numbered (Malformed e l) = refl
case_of-numbered (TooManyLive e l) = refl
case_of-numbered ReaderTooHigh = refl
case_of-numbered UnknownFeature = refl
case_of-numbered QueryMalformed = refl
case_of-numbered NoSuchColumn = refl
case_of-numbered NotWritable = refl
case_of-numbered CheckpointDisagrees = refl
case_of-numbered StateMalformed = refl
case_of-numbered TooManyManifests = refl
case_of-numbered ListRefused = refl
case_of-numbered OutputTooShort = refl
case_of-numbered ValueOutOfRange = refl
case_of-numbered ContainerMalformed = refl
case_of-numbered OtherSchema = refl
case_of-numbered (ForeignKeys e l) = refl

pub numbered-alone : (x y : Refusal) → numbered x ≡ numbered y → x ≡ y
numbered-alone x y e = sym (case_of-numbered x) ∙ ap case_of e ∙ case_of-numbered y

pub said-alone : (x : Refusal) (r q : Numbers) → said r ≡ numbered x → said q ≡ numbered x → r ≡ q
said-alone x r q h k =
    ap (λ (s : Rules.Refusal). record { number = s.number; entry = s.entry; line = s.line }) (h ∙ sym k)
