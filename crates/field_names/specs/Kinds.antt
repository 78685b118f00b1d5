-- The objects whose members the paper names, and the names, in the order of the slots.
use Rattle.std.specs.Prelude.{true, false, List, [], ◌∷◌, ℕ, suc}
use Rattle.rules.specs.Bytes.{Bytes, ascii, same}
use Rattle.field_names.specs.declared.kinds.Kind.{Kind}
use Rattle.field_names.specs.declared.kinds.Kind.TheVariants.{Line, Add, Remove, Protocol, MetaData, Mergeskip}
use Rattle.field_names.specs.declared.kinds.Kind.TheVariants.{Marker, State, Manifest, Bounds, Condition}

unfoldable pub names_of : Kind → List Bytes
names_of Line = ascii "add" ∷ ascii "remove" ∷ ascii "protocol" ∷ ascii "metaData" ∷ ascii "mergeskip" ∷ []
names_of Add = ascii "path" ∷ ascii "size" ∷ ascii "modificationTime" ∷ ascii "dataChange" ∷ ascii "partitionValues" ∷ ascii "numRecords" ∷ []
names_of Remove = ascii "path" ∷ []
names_of Protocol = ascii "minReaderVersion" ∷ ascii "minWriterVersion" ∷ ascii "readerFeatures" ∷ ascii "writerFeatures" ∷ []
names_of MetaData = ascii "id" ∷ ascii "partitionColumns" ∷ []
names_of Mergeskip = ascii "path" ∷ ascii "skipCount" ∷ ascii "retryAfter" ∷ []
names_of Marker = ascii "version" ∷ ascii "parts" ∷ ascii "format" ∷ []
names_of State = ascii "manifests" ∷ []
names_of Manifest = ascii "path" ∷ ascii "partitionBounds" ∷ []
names_of Bounds = ascii "min" ∷ ascii "max" ∷ []
names_of Condition = ascii "column" ∷ ascii "as" ∷ ascii "op" ∷ ascii "value" ∷ []

-- the place of the first that is the name; their number where none is
unfoldable pub seek : Bytes → List Bytes → ℕ
seek name [] = 0
seek name (k ∷ ks) = elim (same name k) [ true ↦ 0 | false ↦ suc (seek name ks) ]
