-- What a line says: one JSON object with exactly one member, an action by its key.
use Rattle.std.specs.Prelude.{Bool, true, false, List, [], ◌∷◌, ℕ, ◌-◌, eqb, leb, length}
use Rattle.std.specs.Prelude.{Option, None, Some}
use Prim.Native.String.{String}
use Rattle.rules.specs.Bytes.{Bytes, ascii, ◌>>=◌, guard, first, among, non_empty, same, distinct, firsts}
use Rattle.rules.specs.Json.Text.{Text, byte}
use Rattle.rules.specs.Json.Numbers.{whole}
use Rattle.rules.specs.Json.Values.{Member, object_of, members_left}
use Rattle.rules.specs.Json.Fields.{under, once, optional, if_there, string_at, whole_at, bool_of, string_or_null, strings_of, unquoted}

-- JSON nests at most 32 objects and arrays deep, line object included: what stands inside of 1, 2 and 3 of them
unfoldable pub in_line : ℕ
in_line = 31

unfoldable pub in_action : ℕ
in_action = 30

unfoldable pub in_field : ℕ
in_field = 29

-- ---- add and remove

-- partition columns, each with its value: none is null
abbrev pub Pairs : Type 0
Pairs = List (Bytes × Option Bytes)

-- the facts of a file
pub record Facts : Type 0 where
  pub path : Bytes
  pub size : ℕ
  pub modification_time : ℕ
  pub num_records : Option ℕ
  pub partition_values : Pairs

-- path (1 to 512 decoded bytes)
abbrev pub path : Bytes → Option Bytes
path p = do
  _ ← guard (among 1 512 (length p))
  Some p

unfoldable pub path_at : List Member → Option Bytes
path_at ms = do
  p ← string_at "path" ms
  path p

unfoldable pub pairs : List Member → Option Pairs
pairs [] = Some []
pairs (m ∷ ms) = do
  x ← string_or_null m.1
  xs ← pairs ms
  Some ((m.0, x) ∷ xs)

-- partitionValues (object, distinct keys, each value a string or null)
unfoldable pub partition_values_at : List Member → Option Pairs
partition_values_at ms = do
  v ← once "partitionValues" ms
  o ← object_of in_field v
  _ ← guard (distinct (firsts o))
  pairs o

unfoldable pub add_of : List Member → Option Facts
add_of ms = do
  p ← path_at ms
  s ← whole_at "size" ms
  t ← whole_at "modificationTime" ms
  c ← once "dataChange" ms
  _ ← bool_of c
  ps ← partition_values_at ms
  v ← optional "numRecords" ms
  n ← if_there whole v
  Some (record { path = p; size = s; modification_time = t; num_records = n; partition_values = ps })

-- ---- protocol

pub record Protocol : Type 0 where
  pub min_reader_version : ℕ
  pub min_writer_version : ℕ
  pub reader_features : List Bytes
  pub writer_features : List Bytes

-- without a protocol line it is (1, 1), no features
unfoldable pub unstated : Protocol
unstated = record { min_reader_version = 1; min_writer_version = 1; reader_features = []; writer_features = [] }

-- 1 to 2,147,483,647
abbrev pub protocol_number : ℕ → Option ℕ
protocol_number n = do
  _ ← guard (among 1 2_147_483_647 n)
  Some n

unfoldable pub protocol_number_at : String → List Member → Option ℕ
protocol_number_at name ms = do
  n ← whole_at name ms
  protocol_number n

unfoldable pub or_empty : Option (List Bytes) → List Bytes
or_empty None = []
or_empty (Some xs) = xs

-- arrays of strings, which may be missing or null, meaning empty
unfoldable pub features_at : String → List Member → Option (List Bytes)
features_at name ms = do
  v ← optional name ms
  xs ← if_there (strings_of in_field) v
  Some (or_empty xs)

unfoldable pub protocol_of : List Member → Option Protocol
protocol_of ms = do
  r ← protocol_number_at "minReaderVersion" ms
  w ← protocol_number_at "minWriterVersion" ms
  rs ← features_at "readerFeatures" ms
  ws ← features_at "writerFeatures" ms
  Some (record { min_reader_version = r; min_writer_version = w; reader_features = rs; writer_features = ws })

-- ---- metaData

pub record MetaData : Type 0 where
  pub id : Bytes
  pub partition_columns : List Bytes

unfoldable pub most_columns : ℕ
most_columns = 16

-- id (non-empty string)
unfoldable pub id_at : List Member → Option Bytes
id_at ms = do
  i ← string_at "id" ms
  non_empty i

-- partitionColumns (array of at most 16 distinct strings)
unfoldable pub meta_data_of : List Member → Option MetaData
meta_data_of ms = do
  i ← id_at ms
  v ← once "partitionColumns" ms
  cs ← strings_of in_field v
  _ ← guard (leb (length cs) most_columns)
  _ ← guard (distinct cs)
  Some (record { id = i; partition_columns = cs })

-- ---- mergeskip

-- how often a file was skipped, and when it may be tried again
pub record Skip : Type 0 where
  pub count : ℕ
  pub retry_after : ℕ

-- without a mergeskip line both are zero
unfoldable pub no_skip : Skip
no_skip = record { count = 0; retry_after = 0 }

-- 0 to 2,147,483,647
abbrev pub skip_number : ℕ → Option ℕ
skip_number n = do
  _ ← guard (leb n 2_147_483_647)
  Some n

-- 1 if missing; null is not as missing; twice is malformed
unfoldable pub skip_count_in : List Text → Option ℕ
skip_count_in [] = Some 1
skip_count_in (v ∷ []) = do
  n ← whole v
  skip_number n
skip_count_in (v ∷ w ∷ vs) = None

-- zero, at once, if missing or null
unfoldable pub or_at_once : Option ℕ → ℕ
or_at_once None = 0
or_at_once (Some t) = t

unfoldable pub skip_of : List Member → Option Skip
skip_of ms = do
  n ← skip_count_in (under (ascii "skipCount") ms)
  v ← optional "retryAfter" ms
  t ← if_there whole v
  Some (record { count = n; retry_after = or_at_once t })

-- ---- the line

pub data Key : Type 0 where
  key_add key_remove key_protocol key_meta_data key_mergeskip key_other : Key

unfoldable pub key_of : Bytes → Key
key_of k =
    first
    ((same k (ascii "add"), key_add)
    ∷ (same k (ascii "remove"), key_remove)
    ∷ (same k (ascii "protocol"), key_protocol)
    ∷ (same k (ascii "metaData"), key_meta_data)
    ∷ (same k (ascii "mergeskip"), key_mergeskip)
    ∷ [])
    key_other

pub data Action : Type 0 where
  add : Facts → Action
  remove : (path : Bytes) → Action
  protocol : Protocol → Action
  meta_data : MetaData → Action
  mergeskip : (path : Bytes) → Skip → Action
  other : Action

-- protocol, metaData, add, remove and mergeskip need an object; any other key has any JSON value
unfoldable pub action_by : Key → (value : Text) → Option Action
action_by key_add v = do
  ms ← object_of in_action v
  f ← add_of ms
  Some (add f)
action_by key_remove v = do
  ms ← object_of in_action v
  p ← path_at ms
  Some (remove p)
action_by key_protocol v = do
  ms ← object_of in_action v
  p ← protocol_of ms
  Some (protocol p)
action_by key_meta_data v = do
  ms ← object_of in_action v
  m ← meta_data_of ms
  Some (meta_data m)
action_by key_mergeskip v = do
  ms ← object_of in_action v
  p ← path_at ms
  s ← skip_of ms
  Some (mergeskip p s)
action_by key_other v = Some other

unfoldable pub only_one : List Member → Option Member
only_one [] = None
only_one (m ∷ []) = Some m
only_one (m ∷ n ∷ ms) = None

-- the line's one member
unfoldable pub line_member : Text → Option Member
line_member line = do
  ms ← object_of in_line line
  only_one ms

-- none where the line is malformed
unfoldable pub action : Text → Option Action
action line = do
  m ← line_member line
  action_by (key_of m.0) m.1

-- ---- what is shown of one line

-- bytes that hold 0x0A are no line
unfoldable pub is_line : Bytes → Bool
is_line [] = true
is_line (b ∷ bs) = elim (eqb b 0x0A) [ true ↦ false | false ↦ is_line bs ]

unfoldable pub or_nothing : Option Text → Text
or_nothing None = []
or_nothing (Some t) = t

-- the path as the line's add writes it, between its quotes
unfoldable pub path_written : Text → Option Text
path_written line = do
  m ← line_member line
  ms ← object_of in_action m.1
  v ← once "path" ms
  Some (unquoted v)

unfoldable pub path_in : Option Action → Text → Text
path_in None line = []
path_in (Some (add f)) line = or_nothing (path_written line)
path_in (Some (remove p)) line = []
path_in (Some (protocol p)) line = []
path_in (Some (meta_data m)) line = []
path_in (Some (mergeskip p s)) line = []
path_in (Some other) line = []

-- the raw path between its quotes; empty if the line is no well-formed add
unfoldable pub path_shown : Text → Text
path_shown line = elim (is_line line) [ true ↦ path_in (action line) line | false ↦ [] ]

-- all that is left of the line behind the path's opening quote
unfoldable pub path_left : Text → Option Text
path_left line = do
  ms ← members_left in_line line
  m ← only_one ms
  fs ← members_left in_action m.1
  v ← once "path" fs
  byte 0x22 v

unfoldable pub start_of : Text → (left : Option Text) → ℕ
start_of line None = 0
start_of line (Some t) = length line - length t

unfoldable pub start_in : Option Action → Text → ℕ
start_in None line = 0
start_in (Some (add f)) line = start_of line (path_left line)
start_in (Some (remove p)) line = 0
start_in (Some (protocol p)) line = 0
start_in (Some (meta_data m)) line = 0
start_in (Some (mergeskip p s)) line = 0
start_in (Some other) line = 0

unfoldable pub path_start : Text → ℕ
path_start line = elim (is_line line) [ true ↦ start_in (action line) line | false ↦ 0 ]

-- it is shown as a part of that line: where the part starts, and its length; (0, 0) if the line is no well-formed add
unfoldable pub path_place : Text → ℕ × ℕ
path_place line = (path_start line, length (path_shown line))

pub data Records : Type 0 where
  records : ℕ → Records
  missing : Records
  no_add : Records

unfoldable pub records_of : Option ℕ → Records
records_of None = missing
records_of (Some n) = records n

unfoldable pub records_in : Option Action → Records
records_in None = no_add
records_in (Some (add f)) = records_of f.num_records
records_in (Some (remove p)) = no_add
records_in (Some (protocol p)) = no_add
records_in (Some (meta_data m)) = no_add
records_in (Some (mergeskip p s)) = no_add
records_in (Some other) = no_add

-- an add's number of records
unfoldable pub records_shown : Text → Records
records_shown line = elim (is_line line) [ true ↦ records_in (action line) | false ↦ no_add ]
