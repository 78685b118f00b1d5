-- The paper's examples marked P, as one table: what is asked, and what the paper says.
use Rattle.std.specs.Prelude.{◌≡◌, Bool, true, false, List, [], ◌∷◌, map, ℕ, pos}
use Prim.Native.String.{String, ◌++◌ as ◌+++◌}
use Rattle.rules.specs.Bytes.{Bytes, ascii}
use Rattle.rules.specs.Names.{Name, version, checkpoint, too_large, name_of}
use Rattle.rules.specs.Lines.{lines}
use Rattle.rules.specs.Actions.{path_place}
use Rattle.rules.specs.Live.{most_live, Row, path_of}
use Rattle.rules.specs.History.{State, of_version, read_lines}
use Rattle.rules.specs.Starts.{nothing_live}
use Rattle.rules.specs.Query.{Number, number, out_of_range, number_of, as_text, as_number, Op, eq, lt, le, gt, ge}
use Rattle.rules.specs.Picking.{meets_as}
use Rattle.rules.specs.Manifests.{outside_as}
use Rattle.rules.specs.Rooms.{rows_room, kept_room, names_room, rows_numbers}
use Rattle.rules.specs.Reading.{Asked, the_latest, the_version, Listing, reading}
use Rattle.rules.specs.Due.{due}
use Rattle.rules.specs.Keeping.{keeping}
use Rattle.rules.specs.Cleaning.{cleaning}
use Rattle.rules.specs.Program.{printed}
use Rattle.rules.specs.Refusals.{Answer, accepted, refused}
use Rattle.rules.specs.Samples.{Sample, json, body_of, file, bundle_of}

-- ---- questions, and what the rules say

pub data Question : Type 0 where
  name : String → Question
  numeral : String → Question
  meet : Op → (value bound : String) → Question
  apply : List String → Question
  within : (limit : ℕ) → List String → Question
  mark : List String → Question
  drops : Op → (bound min max : String) → Question
  read : Asked → (query : String) → (bundle : Bytes) → Question
  lent : (room : ℕ) → (bundle : Bytes) → Question
  table : Asked → (bundle : Bytes) → Question
  awaits : (time : ℕ) → (bundle : Bytes) → Question
  keep : (state query : Bytes) → Question
  clean : (now retention : ℕ) → (bundle : Bytes) → Question
  clean_lent : (table₁ table₂ : ℕ) → (bundle : Bytes) → Question
  print : (bundle : Bytes) → Question
  show : (line : String) → Question

pub data Says : Type 0 where
  named : Name → Says
  value : Number → Says
  live : (paths : List Bytes) → Says
  marked : List (Bytes × (ℕ × ℕ)) → Says
  test : Bool → Says
  listed : (version : ℕ) (paths : List Bytes) → Says
  numbers : List ℕ → Says
  text : Bytes → Says
  place : (start length : ℕ) → Says
  refusal : (number entry line : ℕ) → Says

unfoldable pub says_state : Answer State → Says
says_state (accepted st) = live (map path_of st.live)
says_state (refused r) = refusal r.number r.entry r.line

-- each path with its skip count and retry time
unfoldable pub marks_of : List Row → List (Bytes × (ℕ × ℕ))
marks_of [] = []
marks_of (r ∷ rs) = (path_of r, (r.skip.count, r.skip.retry_after)) ∷ marks_of rs

unfoldable pub says_marks : Answer State → Says
says_marks (accepted st) = marked (marks_of st.live)
says_marks (refused r) = refusal r.number r.entry r.line

-- the numbers of the rows
unfoldable pub says_table : Answer Listing → Says
says_table (accepted l) = numbers (rows_numbers l.rows)
says_table (refused r) = refusal r.number r.entry r.line

unfoldable pub says_listing : Answer Listing → Says
says_listing (accepted l) = listed l.version (map path_of l.rows)
says_listing (refused r) = refusal r.number r.entry r.line

unfoldable pub says_numbers : Answer (List ℕ) → Says
says_numbers (accepted ns) = numbers ns
says_numbers (refused r) = refusal r.number r.entry r.line

unfoldable pub rule : Question → Says
rule (name s) = named (name_of (ascii s))
rule (numeral s) = value (number_of (ascii s))
rule (meet op x b) = test (meets_as as_number op (ascii x) (ascii b))
rule (apply ls) = says_state (read_lines most_live of_version 0 1 0 (lines (body_of ls)) nothing_live)
rule (within limit ls) = says_state (read_lines limit of_version 0 1 0 (lines (body_of ls)) nothing_live)
rule (mark ls) = says_marks (read_lines most_live of_version 0 1 0 (lines (body_of ls)) nothing_live)
rule (drops op b lo hi) = test (outside_as as_text op (ascii b) (ascii lo) (ascii hi))
rule (read asked q s) = says_listing (reading rows_room s (json q) asked)
rule (lent room s) = says_listing (reading room s (ascii "[]") the_latest)
rule (table asked s) = says_table (reading rows_room s (ascii "[]") asked)
rule (awaits time s) = says_listing (due rows_room s the_latest time)
rule (keep state q) = says_numbers (keeping kept_room state q)
rule (clean now retention s) = says_numbers (cleaning (record { names = names_room; table₁ = rows_room; table₂ = rows_room }) s now retention)
rule (clean_lent t₁ t₂ s) = says_numbers (cleaning (record { names = names_room; table₁ = t₁; table₂ = t₂ }) s 100 10)
rule (print s) = text (printed s)
rule (show l) = let p = path_place (json l) in place p.0 p.1

-- each question of the table is answered as its row says
abbrev pub Holds : List (Question × Says) → Type 0
Holds [] = Unit {0}
Holds (row ∷ rows) = (rule row.0 ≡ row.1) × Holds rows

-- ---- the files of P2, P3, P10 and P11

unfoldable pub add_of : (path : String) → String
add_of p = "{'add':{'path':'" +++ p +++ "','size':1,'modificationTime':1,'dataChange':true,'partitionValues':{}}}"

unfoldable pub remove_of : (path : String) → String
remove_of p = "{'remove':{'path':'" +++ p +++ "'}}"

unfoldable pub v0 : Sample
v0 =
    file "00000000000000000000.json" 0
    ("{'protocol':{'minReaderVersion':1,'minWriterVersion':2}}" ∷ "{'metaData':{'id':'t','partitionColumns':[]}}" ∷ [])

-- version 0, and a version file of that name
unfoldable pub beside : String → Bytes
beside n = bundle_of (v0 ∷ file n 0 [] ∷ [])

-- a query for values under "number"
unfoldable pub comparing : (value : String) → String
comparing v = "[{'column':'n','as':'number','op':'ge','value':'" +++ v +++ "'}]"

unfoldable pub v1 : Sample
v1 = file "00000000000000000001.json" 1 (add_of "a.split" ∷ [])

unfoldable pub v3 : Sample
v3 = file "00000000000000000003.json" 3 (add_of "b.split" ∷ [])

-- a metaData line with these columns, quoted
unfoldable pub table_of : (columns : String) → String
table_of cs = "{'metaData':{'id':'t','partitionColumns':[" +++ cs +++ "]}}"

unfoldable pub checkpoint_at_two : List String → Sample
checkpoint_at_two ls = file "00000000000000000002.checkpoint.json" 2 ls

unfoldable pub c2 : Sample
c2 = checkpoint_at_two (table_of "" ∷ add_of "a.split" ∷ [])

-- one without a metaData, which is no start
unfoldable pub bare2 : Sample
bare2 = checkpoint_at_two (add_of "a.split" ∷ [])

unfoldable pub m2 : Sample
m2 = file "_last_checkpoint" 2 ("{'version':2}" ∷ [])

-- ---- the table

unfoldable pub edges : List (Question × Says)
edges =
    (name "00000000000000000010.json", named (version 10))  -- P1
    ∷ (name "09223372036854775807.json", named (version 9_223_372_036_854_775_807))  -- P2
    ∷ (read the_latest "[]" (beside "09223372036854775807.json"), listed 0 [])
    ∷ (name "09223372036854775808.json", named too_large)  -- P3
    ∷ (read the_latest "[]" (beside "09223372036854775808.json"), refusal 3 0 0)
    ∷ (numeral "09", value (number (pos 9)))  -- P4
    ∷ (numeral "-0", value (number (pos 0)))  -- P5
    ∷ (numeral "9223372036854775808", value out_of_range)  -- P6: it meets no condition, and makes a query malformed; one less does not
    ∷ (meet eq "9223372036854775808" "9223372036854775807", test false)
    ∷ (meet lt "9223372036854775808" "9223372036854775807", test false)
    ∷ (meet le "9223372036854775808" "9223372036854775807", test false)
    ∷ (meet gt "9223372036854775808" "9223372036854775807", test false)
    ∷ (meet ge "9223372036854775808" "9223372036854775807", test false)
    ∷ (read the_latest (comparing "9223372036854775808") (bundle_of (v0 ∷ [])), refusal 10 0 0)
    ∷ (meet ge "9223372036854775807" "9223372036854775807", test true)
    ∷ (read the_latest (comparing "9223372036854775807") (bundle_of (v0 ∷ [])), refusal 11 0 0)
    ∷ (apply (add_of "a\\u002fb" ∷ add_of "a/b" ∷ []), live (ascii "a/b" ∷ []))  -- P7
    ∷ (apply (remove_of "a" ∷ add_of "a" ∷ []), live (ascii "a" ∷ []))  -- P8
    ∷ (apply (add_of "a" ∷ remove_of "a" ∷ []), live [])  -- P9
    ∷ (read the_latest "[]" (bundle_of (v0 ∷ v1 ∷ v3 ∷ [])), listed 1 (ascii "a.split" ∷ []))  -- P10
    ∷ (read (the_version 3) "[]" (bundle_of (v0 ∷ v1 ∷ v3 ∷ [])), refusal 5 0 0)
    ∷ (read (the_version 3) "[]" (bundle_of (v0 ∷ v1 ∷ c2 ∷ v3 ∷ [])), listed 3 (ascii "a.split" ∷ ascii "b.split" ∷ []))  -- P11
    ∷ (read the_latest "[]" (bundle_of (v0 ∷ v1 ∷ c2 ∷ v3 ∷ m2 ∷ [])), listed 3 (ascii "a.split" ∷ ascii "b.split" ∷ []))
    ∷ (read the_latest "[]" (bundle_of (v0 ∷ v1 ∷ c2 ∷ v3 ∷ [])), listed 1 (ascii "a.split" ∷ []))
    ∷ (read (the_version 3) "[]" (bundle_of (v0 ∷ v1 ∷ bare2 ∷ v3 ∷ [])), refusal 5 0 0)  -- P11 amended by C-11: no metaData, no start
    ∷ (read the_latest "[]" (bundle_of (v0 ∷ v1 ∷ bare2 ∷ v3 ∷ m2 ∷ [])), listed 1 (ascii "a.split" ∷ []))
    ∷ (drops gt "2024-01-31" "2024-01-01" "2024-01-31", test true)  -- P12
    ∷ (drops ge "2024-01-31" "2024-01-01" "2024-01-31", test false)
    ∷ []
