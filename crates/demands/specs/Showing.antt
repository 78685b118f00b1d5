-- What is shown of one line, and the directory of a manifest: any input has its answer, and which one.
use Rattle.std.specs.Prelude.{◌≡◌, true, false, [], ◌∷◌, ◌++◌, ◌+◌, ◌≤◌, length, take, drop}
use Rattle.std.specs.Prelude.{Some}
use Rattle.rules.specs.Bytes.{Bytes}
use Rattle.rules.specs.Json.Fields.{string_of, unquoted}
use Rattle.rules.specs.Actions.{Facts, add, action, is_line, path_written, path_shown, path_place, no_add, records_of, records_shown}
use Rattle.rules.specs.Manifests.{slash, has_slash, stands_as_is, directory}

-- ---- given one line

-- the line is a well-formed add
abbrev pub IsAdd : Bytes → Facts → Type 0
IsAdd line f = (is_line line ≡ true) × (action line ≡ Some (add f))

-- the raw path between its quotes is shown as a part of that line, or an empty part if the line is no well-formed add
pub record PathShown (line : Bytes) : Type 0 where
  pub before : Bytes
  pub behind : Bytes
  pub part : line ≡ before ++ (path_shown line ++ behind)
  pub within : (path_place line).0 + (path_place line).1 ≤ length line
  pub place : take (path_place line).1 (drop (path_place line).0 line) ≡ path_shown line
  pub of-add : (f : Facts) → IsAdd line f → (v : Bytes) × (path_written line ≡ Some (unquoted v)) × (string_of v ≡ Some f.path) × (path_shown line ≡ unquoted v)
  pub of_others : ((f : Facts) → IsAdd line f → ⊥) → (path_shown line ≡ []) × (path_place line ≡ (0, 0))

abbrev pub PathIsShown : Type 0
PathIsShown = (line : Bytes) → PathShown line

-- an add's number of records, where it has one
pub record RecordsShown (line : Bytes) : Type 0 where
  pub of-add : (f : Facts) → IsAdd line f → records_shown line ≡ records_of f.num_records
  pub of_others : ((f : Facts) → IsAdd line f → ⊥) → records_shown line ≡ no_add

abbrev pub RecordsAreShown : Type 0
RecordsAreShown = (line : Bytes) → RecordsShown line

-- ---- the directory, without its closing slash: a part of the path up to its last slash or, for the others, the lent name as lent

pub record DirectoryShown (path lent : Bytes) : Type 0 where
  pub stands : stands_as_is path ≡ true → (name : Bytes) × (path ≡ directory path lent ++ slash ∷ name) × (has_slash name ≡ false)
  pub others : stands_as_is path ≡ false → directory path lent ≡ lent

abbrev pub DirectoryIsShown : Type 0
DirectoryIsShown = (path lent : Bytes) → DirectoryShown path lent
