-- What each answer of the crate is in the rules' terms.
use Rattle.std.specs.Prelude.{Bool, true, false, [], ◌∷◌, ℕ, leb}
use Rattle.std.specs.Prelude.{Option, None, Some, Result, Ok, Err}
use Rattle.rules.specs.Bytes.{Bytes}
use Rattle.rules.specs.Numbers.{most}
use Rattle.rules.specs.Names.{Name as RuleName, version, checkpoint, marker, other, too_large}
use Rattle.file_names.specs.declared.Version.{Version}
use Rattle.file_names.specs.declared.Name.{Name}
use Rattle.file_names.specs.declared.Name.TheVariants.{VersionFile, Checkpoint, Marker, Other, TooLarge}

unfoldable pub name_is : RuleName → Name
name_is (version n) = VersionFile (record { 0 = n })
name_is (checkpoint n) = Checkpoint (record { 0 = n })
name_is marker = Marker
name_is other = Other
name_is too_large = TooLarge

-- the version of a number, or what a name says without one: by whether the number is at most 2^63 - 1
unfoldable pub number_is : (small : Bool) → ℕ → Result Version Name
number_is true n = Ok (record { 0 = n })
number_is false n = Err TooLarge

unfoldable pub digits_is : Option ℕ → Result Version Name
digits_is None = Err Other
digits_is (Some n) = number_is (leb n most) n

-- what a name begins with whose version is not too large, whatever follows
abbrev pub two_zeros : Bytes
two_zeros = 0x30 ∷ 0x30 ∷ []
