-- What C gets of a manifest's directory: so many bytes of the path or of the state's directory.
use Rattle.std.specs.Prelude.{◌≡◌, Bool, true, false, length, take}
use Rattle.rules.specs.Bytes.{Bytes}
use Rattle.rules.specs.Manifests.{stands_as_is, before_last_slash, directory}
use Rattle.entries_c.specs.declared.states.DirectoryShown.{DirectoryShown}

abbrev pub part_by : (stands : Bool) → (path state_directory : Bytes) → DirectoryShown
part_by true p d = record { of_path = true; length = length (before_last_slash p) }
part_by false p d = record { of_path = false; length = length d }

abbrev pub directory_part : (path state_directory : Bytes) → DirectoryShown
directory_part p d = part_by (stands_as_is p) p d

abbrev pub bytes_of : (of_path : Bool) → (path state_directory : Bytes) → Bytes
bytes_of true p d = p
bytes_of false p d = d

-- which bytes, and that these are the directory
pub record DirectoryIs (p d : Bytes) (r : DirectoryShown) : Type 0 where
  pub answer : r ≡ directory_part p d
  pub shows : take r.length (bytes_of r.of_path p d) ≡ directory p d
